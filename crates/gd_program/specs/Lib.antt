pub mod Runs
pub mod Commands
pub mod Carrying
pub mod Headline
