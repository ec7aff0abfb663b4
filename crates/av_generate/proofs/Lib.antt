pub mod HexLemmas
pub mod DrawLemmas
pub mod LanguageLemmas
pub mod LineLemmas
pub mod NumberLemmas
pub mod PieceLemmas
pub mod SplitmixLemmas
