mod Rows
mod Samples
pub mod AnySumLaws
pub mod CanonicalLaws
pub mod EntryLaws
pub mod FaultLaws
pub mod FileFaults
pub mod HeaderLaws
pub mod LinesKeep
pub mod ParserRules
pub mod SectionLaws
pub mod SpelledParsers
pub mod SpellingRules
pub mod TableLaws
pub mod TableSets
