pub mod Answers
pub mod Floors
pub mod Seats
pub mod Tickets
