pub mod CountLaws
pub mod FileLaws
pub mod FrontLaws
pub mod LaneLaws
pub mod MarkLaws
pub mod ReaderLaws
pub mod RunLaws
mod ZeroLaws
