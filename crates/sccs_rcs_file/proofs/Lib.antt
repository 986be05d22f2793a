pub mod FileLaws
pub mod Lexing
pub mod ReadTokens
pub mod SpotLaws
pub mod Strings
pub mod TextFaultLaws
pub mod TrunkWalk
pub mod WholeFiles
