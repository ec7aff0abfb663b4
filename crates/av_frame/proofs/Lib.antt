pub mod SizeLemmas
pub mod SpellingLemmas
pub mod ReadingLemmas
pub mod FaultLemmas
pub mod FrontLemmas
pub mod FramesLemmas
pub mod LawLemmas
