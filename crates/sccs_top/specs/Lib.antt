pub mod Asked
pub mod CommandLaws
pub mod Following
pub mod MadeHistories
pub mod Messages
pub mod NextAsks
pub mod Runs
