pub mod ArrivalLemmas
mod TallyLemmas
