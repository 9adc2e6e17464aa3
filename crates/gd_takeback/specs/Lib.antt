pub mod Seen
pub mod Lists
pub mod Making
pub mod Answers
pub mod Standing
