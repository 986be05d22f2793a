pub mod HeaderLines
pub mod ViablePrefixes
