mod FileLemmas
mod GroupLemmas
mod LineLemmas
pub mod PartLemmas
mod ReceiptLemmas
