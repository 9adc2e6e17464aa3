pub mod SlowViewer
pub mod ViewerEffects
pub mod Handing
pub mod Viewing
pub mod Snapshotting
pub mod Views
