pub mod Pend
pub mod Waiting
