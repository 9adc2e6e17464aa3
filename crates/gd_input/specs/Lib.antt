pub mod Cutting
pub mod Buffers
pub mod Reading
