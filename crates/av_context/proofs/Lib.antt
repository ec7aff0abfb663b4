pub mod CountLemmas
pub mod RowsLemmas
