pub mod Untold
pub mod Addresses
