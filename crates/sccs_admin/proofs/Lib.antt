pub mod BodyLaws
pub mod HeaderRules
pub mod PrepareLaws
pub mod RuleLaws
pub mod StepLaws
pub mod TextLaws
pub mod NewFileLaws
pub mod StopLaws
