pub mod CheckLemmas
pub mod OpeningLemmas
pub mod ScanLemmas
