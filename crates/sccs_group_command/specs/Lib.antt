pub mod GroupStepLists
pub mod GroupStep
pub mod GroupText
pub mod LFiles
pub mod Making
pub mod Preparing
