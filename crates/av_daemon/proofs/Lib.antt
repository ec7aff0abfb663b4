pub mod HearingLemmas
pub mod KeepingLemmas
pub mod PassingLemmas
pub mod TellingLemmas
