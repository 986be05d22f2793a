pub mod ImportStep
pub mod Locks
pub mod Parts
pub mod RunItems
