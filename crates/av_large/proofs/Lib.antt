pub mod MapLemmas
pub mod FloorLemmas
pub mod OnceLemmas
pub mod NumberLemmas
pub mod StateLemmas
pub mod PromiseLemmas
pub mod FollowLemmas
pub mod JudgedLemmas
