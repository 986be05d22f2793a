pub mod Checks
pub mod Commands
pub mod Drafts
pub mod TreeFalls
pub mod Trees
