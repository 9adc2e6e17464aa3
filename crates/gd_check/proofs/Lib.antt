pub mod Registers
pub mod Bits
pub mod Bursts
pub mod Rows
pub mod Words
pub mod Checked
