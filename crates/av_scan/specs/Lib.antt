pub mod Matches
pub mod Told
pub mod Moving
pub mod Outcome
pub mod Feed
pub mod Coming
pub mod Stretches
