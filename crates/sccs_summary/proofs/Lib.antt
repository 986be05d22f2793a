pub mod Texts
pub mod Giving
pub mod LFiles
pub mod Marked
