pub mod Summaries
pub mod SummaryFiles
