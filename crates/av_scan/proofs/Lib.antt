pub mod NameLemmas
pub mod WayLemmas
pub mod LineLemmas
pub mod MatchLemmas
pub mod EndLemmas
pub mod StretchLemmas
