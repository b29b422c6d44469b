pub mod Utf8
pub mod Escape
pub mod Named
pub mod FieldNames
pub mod Elements
pub mod Digits
mod Rows
pub mod ReadFacts
