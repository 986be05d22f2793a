pub mod BodyLaws
pub mod GiveLists
pub mod GivesLaws
pub mod LinesLaws
pub mod PartLaws
pub mod ReportLaws
pub mod StepLaws
