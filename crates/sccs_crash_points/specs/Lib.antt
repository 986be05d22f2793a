pub mod Calm
pub mod CrashPoints
pub mod Recovery
pub mod Unlocked
