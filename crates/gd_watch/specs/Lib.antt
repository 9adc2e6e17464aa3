pub mod Capturing
pub mod Ends
pub mod Items
pub mod Taking
