mod ByteOrder
mod Keyed
mod Layers
mod LawfulPredicates
pub mod LawfulTrees
mod LongestFirst
pub mod PlacedRoutes
pub mod ReadAt
mod Sorts
