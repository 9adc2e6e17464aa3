pub mod Arrivals
pub mod Tally
