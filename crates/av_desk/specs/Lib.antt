pub mod Audit
pub mod Book
pub mod Call
pub mod Entry
pub mod Lent
pub mod Setup
