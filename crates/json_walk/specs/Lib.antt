pub mod Outcome
pub mod Bytes
pub mod AtTop
pub mod Places
pub mod Members
pub mod Fields
pub mod Leaves
pub mod Numbers
