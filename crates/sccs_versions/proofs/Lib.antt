pub mod ItemLaws
pub mod Keeps
pub mod Places
pub mod ReadLaws
pub mod RunLaws
pub mod Steps
