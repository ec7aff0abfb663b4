pub mod BookLemmas
pub mod ClaimLemmas
pub mod OpenLemmas
pub mod OrderLemmas
mod PortLemmas
pub mod VersionLemmas
