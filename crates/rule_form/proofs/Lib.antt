pub mod HeaderLaws
pub mod OtherLaws
pub mod Names
