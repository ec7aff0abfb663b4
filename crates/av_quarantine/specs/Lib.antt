pub mod Laws
pub mod Looks
pub mod Naming
pub mod Steps
