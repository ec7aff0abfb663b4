mod ChartLemmas
pub mod DrawnLemmas
mod EscapeLemmas
pub mod LifeLemmas
pub mod FaultLemmas
mod LoopLemmas
mod NumberLemmas
mod OneBarLemmas
mod PutLemmas
pub mod ReportLemmas
pub mod SlotLemmas
pub mod StoryLemmas
