pub mod BackLemmas
pub mod ObjectLemmas
pub mod PlacedLemmas
pub mod ToldLemmas
