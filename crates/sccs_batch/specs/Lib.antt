pub mod BatchLines
pub mod BatchText
pub mod Batches
pub mod Entries
