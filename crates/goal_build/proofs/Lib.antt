pub mod HostLaws
pub mod Choosing
pub mod SentLaws
pub mod WellTrees
pub mod WellFormed
pub mod Orders
pub mod Renumbered
pub mod ChoiceRows
pub mod Guarding
pub mod Formulas
pub mod RivalRows
pub mod Making
pub mod Spots
mod RowsGoals
