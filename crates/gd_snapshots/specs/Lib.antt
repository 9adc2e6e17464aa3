pub mod Snapshots
pub mod SnapshotBytes
pub mod Pieces
