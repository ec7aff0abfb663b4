pub mod Promise
pub mod Filtered
pub mod Ranges
