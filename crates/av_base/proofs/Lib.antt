pub mod AmongLemmas
pub mod DecimalLemmas
pub mod DeviceLemmas
pub mod KeyLemmas
pub mod LimitLemmas
pub mod LineLemmas
pub mod PartLemmas
