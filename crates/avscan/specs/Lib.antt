pub mod Run
pub mod Check
pub mod Opening
pub mod Scanning
