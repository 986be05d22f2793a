pub mod Coming
pub mod Place
pub mod Regions
pub mod Samples
pub mod Stacks
pub mod WasRead
