pub mod Brought
pub mod Ends
pub mod Files
pub mod Groups
pub mod Lines
pub mod Losses
