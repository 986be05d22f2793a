pub mod FileTargets
pub mod GivingLaws
pub mod RunTexts
pub mod SearchLaws
pub mod TargetLaws
pub mod TurnLaws
pub mod WholeLaws
pub mod YLaws
