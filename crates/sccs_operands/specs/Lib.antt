pub mod FolderNames
pub mod InputNames
