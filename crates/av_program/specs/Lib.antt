pub mod List
pub mod Sets
