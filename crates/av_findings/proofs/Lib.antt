pub mod AloneLemmas
pub mod HitsLemmas
