pub mod BlockCounts
pub mod FrontFile
pub mod HeldPiece
pub mod Marks
pub mod Runs
pub mod ReaderState
pub mod SumOf
