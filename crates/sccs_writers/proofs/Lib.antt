pub mod HeaderCalls
pub mod HeaderLaws
pub mod OneFile
pub mod PutLaws
