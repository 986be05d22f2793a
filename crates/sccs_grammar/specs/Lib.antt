pub mod AnySum
pub mod Entries
pub mod File
pub mod FileRefusals
pub mod Front
pub mod HeldTable
pub mod SidKeys
