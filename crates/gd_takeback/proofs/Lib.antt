pub mod Newest
pub mod Deciding
pub mod Doing
pub mod Passing
pub mod Standing
pub mod Lines
