pub mod NameValues
pub mod MapHeads
pub mod MapKinds
