pub mod StepListCrashPointLaws
pub mod FineLoops
pub mod JoinedStepLists
pub mod OneAction
pub mod OwnFiles
pub mod Portions
pub mod QuietStepLists
pub mod SaidStepLists
