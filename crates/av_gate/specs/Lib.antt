pub mod Book
pub mod Calls
pub mod Claims
pub mod PortCounts
pub mod Seats
pub mod Versions
