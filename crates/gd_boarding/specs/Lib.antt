pub mod Boarding
