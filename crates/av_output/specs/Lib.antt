pub mod Back
pub mod Objects
pub mod Text
pub mod Told
