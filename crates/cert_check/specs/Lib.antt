pub mod Reading
pub mod Counts
pub mod LawfulRows
pub mod GoalRows
pub mod Laws
