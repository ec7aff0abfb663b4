pub mod RunLemmas
pub mod GroupLemmas
pub mod ServiceLemmas
pub mod ContentLemmas
