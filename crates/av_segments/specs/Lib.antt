pub mod Examples
pub mod Joining
pub mod Laws
pub mod Seams
pub mod Segments
