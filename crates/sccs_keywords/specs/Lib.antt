pub mod Expansion
pub mod Forms
pub mod Held
pub mod Keywords
pub mod Places
pub mod VersionFacts
