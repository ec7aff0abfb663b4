pub mod MergeLemmas
pub mod TrustLemmas
