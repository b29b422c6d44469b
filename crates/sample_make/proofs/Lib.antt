mod Written
mod Texts
mod Counts
mod Lawful
