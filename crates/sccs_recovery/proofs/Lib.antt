pub mod AnyDisks
mod EntryLists
pub mod FinishEnding
pub mod FinishRuns
pub mod FinishShown
pub mod FinishStops
pub mod FinishViews
pub mod FreedNames
mod IntentLaws
pub mod Moved
pub mod NameFiles
mod OtherNames
mod ReadingLaws
mod RecoverCrashPoints
pub mod RecoveryEnds
mod RecoveryLaws
