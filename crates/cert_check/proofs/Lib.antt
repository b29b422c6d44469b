pub mod Readings
pub mod Refuting
pub mod Numbers
pub mod Rebuilt
pub mod OneGuard
pub mod OneGoal
pub mod RowLaws
pub mod Holding
