pub mod Cause
pub mod Message
pub mod Spelling
pub mod Reading
pub mod Feed
pub mod Frames
pub mod Laws
