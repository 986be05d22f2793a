pub mod DropLaws
pub mod SoakStepLists
pub mod SummaryLaws
