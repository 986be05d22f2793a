pub mod Tokens
pub mod Items
pub mod Written
pub mod Sums
