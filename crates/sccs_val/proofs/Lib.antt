pub mod JudgingLaws
pub mod LineLaws
pub mod RunLaws
