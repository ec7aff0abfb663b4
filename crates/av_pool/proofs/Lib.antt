pub mod Weighing
pub mod Moves
pub mod Channels
pub mod Sending
pub mod Picking
pub mod Workers
