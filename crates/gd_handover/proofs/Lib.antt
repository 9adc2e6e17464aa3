pub mod AheadLemmas
pub mod PartLemmas
mod ReaderLemmas
mod LoopLemmas
mod JudgedLemmas
mod WholeLemmas
mod PieceLemmas
mod PrintLemmas
