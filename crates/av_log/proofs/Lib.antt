pub mod EscapeLemmas
pub mod LineLemmas
pub mod NotesLemmas
pub mod OrderLemmas
pub mod QueueLemmas
pub mod StampLemmas
pub mod WordsLemmas
