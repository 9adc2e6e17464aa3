pub mod SnapshotLemmas
pub mod TakingLemmas
pub mod Turns
pub mod ItemLemmas
pub mod SoFar
pub mod ViewEnds
