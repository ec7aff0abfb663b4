pub mod Filter
pub mod Looks
pub mod Run
pub mod Sockets
pub mod Tries
