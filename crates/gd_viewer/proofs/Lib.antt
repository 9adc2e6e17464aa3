pub mod Counted
pub mod Standing
pub mod Taking
pub mod Beating
pub mod Rising
pub mod Parts
pub mod Begun
