pub mod BaseSplicing
pub mod Copies
pub mod Examining
pub mod Filters
