pub mod Faults
pub mod Contents
pub mod States
pub mod Written
pub mod Lines
pub mod Memory
