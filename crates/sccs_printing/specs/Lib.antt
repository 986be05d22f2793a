pub mod Counted
pub mod Targets
pub mod Giving
pub mod Printing
pub mod Searching
