pub mod HeaderLists
pub mod Weights
mod Rows
pub mod LawfulRoutes
