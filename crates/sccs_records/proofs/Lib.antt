pub mod NullLaws
pub mod SetLaws
pub mod TableLaws
