pub mod Rehearsal
pub mod Churn
