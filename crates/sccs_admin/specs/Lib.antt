pub mod AdminStep
pub mod Locks
pub mod NewFiles
pub mod Parts
pub mod Rules
pub mod Texts
