pub mod Chart
pub mod Generate
pub mod Import
pub mod Merge
pub mod Placing
pub mod Sign
