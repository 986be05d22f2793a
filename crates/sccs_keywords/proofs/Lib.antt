pub mod Finds
pub mod GiveLaws
pub mod KeywordLaws
pub mod Letters
pub mod LineTurns
pub mod TextLaws
