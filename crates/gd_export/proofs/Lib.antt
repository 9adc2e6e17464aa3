pub mod Marks
pub mod Spelled
pub mod Begin
pub mod Puts
