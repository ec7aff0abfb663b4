pub mod ClientsLemmas
pub mod ServiceLemmas
