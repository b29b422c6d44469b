pub mod Terms
pub mod Conditions
pub mod Leaves
pub mod Laws
