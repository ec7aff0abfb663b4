pub mod Examples
pub mod Findings
pub mod Laws
