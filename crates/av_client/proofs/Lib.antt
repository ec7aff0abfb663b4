pub mod AskLemmas
pub mod OwedLemmas
pub mod SendLemmas
pub mod TagLemmas
