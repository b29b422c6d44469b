pub mod HeadFacts
pub mod InputFacts
pub mod TestFacts
mod Rows
