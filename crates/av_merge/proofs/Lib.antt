pub mod AddLemmas
pub mod LookLemmas
pub mod MergeLemmas
pub mod OriginLemmas
pub mod StandLemmas
