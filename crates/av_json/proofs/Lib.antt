pub mod BackLemmas
pub mod CleanLemmas
pub mod FrontLemmas
pub mod MemberLemmas
pub mod NumberLemmas
pub mod ReadsLemmas
pub mod ShownLemmas
