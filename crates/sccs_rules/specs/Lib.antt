pub mod Flags
pub mod Forms
pub mod Rules
pub mod Unlocked
pub mod Users
