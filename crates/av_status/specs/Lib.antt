pub mod Status
pub mod Tally
