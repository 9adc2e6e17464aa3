pub mod Viewers
pub mod Answers
pub mod Opening
