pub mod Dropping
pub mod Leaves
pub mod Locks
pub mod NewVersions
pub mod Removed
pub mod RmdelStep
pub mod Writing
