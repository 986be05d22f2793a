pub mod StepFiles
pub mod Touches
pub mod WholeFiles
