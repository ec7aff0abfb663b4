pub mod Index
pub mod State
pub mod Calls
pub mod Run
pub mod Laws
pub mod Promise
