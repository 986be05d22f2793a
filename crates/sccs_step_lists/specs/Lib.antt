pub mod StepLists
pub mod Following
pub mod OwnFiles
pub mod QuietSettings
pub mod Sayings
pub mod Tests
pub mod WhileFine
