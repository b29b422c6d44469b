pub mod Places
pub mod Growing
pub mod Requiring
pub mod Claims
pub mod Found
