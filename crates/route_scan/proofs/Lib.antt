pub mod Accepted
pub mod Firsts
pub mod Gathered
pub mod Spotted
