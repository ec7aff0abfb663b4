pub mod Bounded
pub mod Numbered
