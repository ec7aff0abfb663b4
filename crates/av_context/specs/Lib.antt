pub mod Context
pub mod Contexts
pub mod Calls
