pub mod Called
pub mod Folders
pub mod Images
pub mod Owned
pub mod Touched
pub mod Views
pub mod WholeFileLaws
