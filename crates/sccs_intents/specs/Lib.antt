pub mod Intents
pub mod Written
