pub mod Places
pub mod Plans
pub mod Scripts
pub mod Weave
