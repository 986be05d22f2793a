pub mod Digits
pub mod FlagPlaces
pub mod FlagRules
pub mod KeptUsers
pub mod Parts
pub mod Spaced
pub mod UserRules
