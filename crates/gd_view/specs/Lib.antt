pub mod Seen
pub mod Chains
pub mod Walk
pub mod Sums
pub mod Levels
