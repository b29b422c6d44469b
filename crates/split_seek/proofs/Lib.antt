pub mod Drafts
pub mod Asking
pub mod Making
pub mod Looking
pub mod Recalling
pub mod Searches
pub mod Enough
