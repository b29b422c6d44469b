pub mod Headers
pub mod Inputs
pub mod Validation
pub mod Tests
pub mod Lawful
