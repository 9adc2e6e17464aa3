pub mod Lookups
pub mod SlotLemmas
pub mod AtLemmas
pub mod CopyLemmas
