pub mod SteadyParts
pub mod ExactObject
pub mod ExactParts
pub mod ExactSnapshot
pub mod Ends
pub mod PieceLaws
mod ByteLemmas
