pub mod NextEvents
pub mod OneGesture
pub mod Traces
mod Turning
pub mod Soundness
