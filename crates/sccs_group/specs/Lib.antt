pub mod Changes
pub mod Ended
pub mod Finishing
pub mod Grouping
pub mod Halfway
pub mod Members
pub mod Recovering
