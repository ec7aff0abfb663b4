pub mod Class
pub mod Glob
pub mod Reading
pub mod Row
