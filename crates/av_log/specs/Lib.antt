pub mod Entry
pub mod Line
pub mod Notes
pub mod Order
pub mod Pace
pub mod Queue
pub mod Stamp
pub mod Words
