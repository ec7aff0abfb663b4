pub mod BitLemmas
pub mod SignedLemmas
