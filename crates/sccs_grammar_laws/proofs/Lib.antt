pub mod BodyPrefixes
pub mod FileShape
pub mod HeaderMade
pub mod HeaderPrefixes
pub mod HeaderShape
pub mod MoreRead
pub mod TokenLists
