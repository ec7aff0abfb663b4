pub mod Cause
pub mod File
pub mod Line
pub mod Member
pub mod Shown
