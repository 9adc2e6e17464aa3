pub mod CallLemmas
pub mod FrontLemmas
pub mod FoundLemmas
pub mod ReadLemmas
pub mod ResumeLemmas
