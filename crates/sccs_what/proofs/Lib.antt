pub mod TextLaws
pub mod SearchLaws
pub mod FileLaws
pub mod StepLaws
pub mod ActionLaws
