pub mod NewDeltas
pub mod Texts
