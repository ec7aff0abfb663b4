pub mod BoundedLemmas
pub mod MapLemmas
pub mod NumberedLemmas
