pub mod WalkLemmas
pub mod ChainLemmas
pub mod SortLemmas
pub mod LevelLemmas
pub mod SumLemmas
pub mod WriteLemmas
pub mod Rulesets
