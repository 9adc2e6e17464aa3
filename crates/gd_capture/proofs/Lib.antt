pub mod Knowing
pub mod Undoing
pub mod Basing
pub mod Placing
pub mod Numbering
pub mod Keeping
pub mod Capturing
