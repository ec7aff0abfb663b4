pub mod DateLemmas
pub mod HearLemmas
pub mod KeptLemmas
pub mod PathLemmas
pub mod ReplyLemmas
pub mod WholeLemmas
