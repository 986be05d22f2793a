pub mod Changes
pub mod Ends
pub mod NewEntries
pub mod PFiles
pub mod Pending
pub mod Reports
pub mod Stops
pub mod Utilities
