pub mod CourseLemmas
pub mod ReplyLemmas
pub mod ToldLemmas
pub mod VerdictLemmas
