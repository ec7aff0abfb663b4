pub mod ServedLemmas
pub mod PromiseLemmas
pub mod FilteredLemmas
pub mod RangeLemmas
