pub mod EachLemmas
pub mod LineLemmas
pub mod PieceLemmas
pub mod QuotedLemmas
pub mod SeveralLemmas
pub mod TallyLemmas
pub mod VolumeLemmas
