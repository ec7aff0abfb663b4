pub mod Bytes
pub mod Clamav
pub mod Import
pub mod Kind
pub mod Name
pub mod Number
pub mod Offset
pub mod Rule
