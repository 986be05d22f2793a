pub mod FindLaws
pub mod HeaderLaws
pub mod ImportLaws
pub mod ImportedFiles
pub mod PutRuns
pub mod RcsNames
pub mod ReadTrunks
pub mod RunLaws
