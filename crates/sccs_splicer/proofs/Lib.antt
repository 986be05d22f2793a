pub mod Calls
pub mod Counts
pub mod PlaceLaws
pub mod PlacedLines
pub mod Pushes
pub mod SpliceLaws
pub mod Spelling
