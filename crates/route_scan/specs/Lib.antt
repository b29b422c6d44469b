pub mod Starts
pub mod Tests
pub mod Walks
pub mod Spots
