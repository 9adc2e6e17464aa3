pub mod Asked
pub mod PlainWords
pub mod NodeWords
pub mod PairWords
pub mod PlainForms
pub mod Ranges
pub mod WrittenOut
