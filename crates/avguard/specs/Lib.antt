pub mod Ask
pub mod Logging
pub mod Report
pub mod Told
