pub mod Place
pub mod Refusal
