pub mod Again
pub mod Asking
pub mod Reports
pub mod Sending
