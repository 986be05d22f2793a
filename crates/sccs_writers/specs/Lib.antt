pub mod Controls
pub mod HeaderBytes
pub mod HeldBytes
pub mod OneFile
pub mod Puts
pub mod Spelled
