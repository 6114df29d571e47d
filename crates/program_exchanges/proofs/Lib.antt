pub mod CountLemmas
pub mod StoreLemmas
pub mod MessageLemmas
pub mod MergeLemmas
pub mod OutcomeLemmas
pub mod FetchLemmas
pub mod ToldLemmas
