pub mod Stars
pub mod Repeated
pub mod LawfulDomains
pub mod Apart
pub mod ManyRoutes
pub mod LawfulHosts
pub mod LawfulConfigs
mod Rows
