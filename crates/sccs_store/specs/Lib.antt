pub mod Commits
pub mod Finished
pub mod Placing
pub mod SealedFiles
pub mod Stops
