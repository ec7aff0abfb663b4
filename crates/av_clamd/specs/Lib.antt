pub mod About
pub mod Text
pub mod Door
pub mod Laws
