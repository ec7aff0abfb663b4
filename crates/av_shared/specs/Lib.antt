pub mod Apart
pub mod Certified
pub mod History
pub mod Merged
pub mod Runs
pub mod Still
pub mod Works
