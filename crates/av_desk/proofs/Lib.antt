pub mod CatalogueLemmas
pub mod Crossing
pub mod KeepLemmas
pub mod LentLemmas
pub mod OutgoingLemmas
pub mod SilentLemmas
