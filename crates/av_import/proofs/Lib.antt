pub mod ClamavLemmas
pub mod HexLemmas
pub mod ImportLemmas
pub mod KindLemmas
pub mod NameLemmas
pub mod NumberLemmas
pub mod OffsetLemmas
pub mod PigeonLemmas
