pub mod AmongLemmas
mod ApartLemmas
pub mod Crossing
mod MergeLemmas
mod OnlyLemmas
mod RunLemmas
mod StepLemmas
pub mod StillLemmas
mod StuckLemmas
mod WorkLemmas
