pub mod Cuts
pub mod IntentTexts
pub mod Others
pub mod Turns
