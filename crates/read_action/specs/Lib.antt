pub mod Edits
pub mod Clusters
pub mod Forwards
pub mod Redirects
pub mod Routes
