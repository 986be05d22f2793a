pub mod AnyDisk
pub mod Checks
pub mod Commands
pub mod Ends
pub mod Entries
pub mod FinishStep
pub mod FinishingEnds
pub mod RecoverStep
