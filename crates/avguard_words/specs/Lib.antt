pub mod Config
pub mod Settings
pub mod Words
