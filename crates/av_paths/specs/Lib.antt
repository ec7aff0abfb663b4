pub mod Below
pub mod Content
pub mod Course
pub mod Opening
pub mod Told
pub mod Verdict
