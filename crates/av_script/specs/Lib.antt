pub mod CommandObjects
pub mod CommandText
pub mod Output
pub mod PortExamples
pub mod PortScripts
pub mod Script
