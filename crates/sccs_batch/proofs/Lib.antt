pub mod BatchStepLists
pub mod BatchTexts
pub mod EntryStepLists
