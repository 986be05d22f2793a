pub mod FlagValues
pub mod Logins
