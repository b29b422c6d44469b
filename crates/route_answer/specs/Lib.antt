pub mod Levels
pub mod Forwarded
