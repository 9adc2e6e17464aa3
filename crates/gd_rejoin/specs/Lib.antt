pub mod Faults
pub mod LogFor
pub mod Resuming
