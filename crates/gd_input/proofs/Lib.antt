mod CutLemmas
mod TakingLemmas
pub mod LineLemmas
pub mod Hearing
