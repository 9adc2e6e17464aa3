pub mod Texts
pub mod Begun
