pub mod NamingLemmas
pub mod StepLemmas
