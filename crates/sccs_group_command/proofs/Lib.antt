mod Apart
mod Backs
mod Cleared
mod Completed
pub mod EntryEnds
mod Firms
mod GroupCause
pub mod GroupStepLists
pub mod GroupEnds
mod GroupFiles
mod GroupNames
mod GroupRuns
mod GroupSteps
mod GroupStops
mod GroupTexts
pub mod GroupedEntries
mod Halves
mod LFilesPass
mod Losing
mod OtherFiles
mod SoFars
mod Speaking
pub mod StepsAhead
mod Turns
mod Wholes
