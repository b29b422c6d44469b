pub mod Counted
pub mod Floats
pub mod Ascii
pub mod AsciiEdits
pub mod HeaderFailures
pub mod ReplyTexts
pub mod Rows
