pub mod LineLemmas
pub mod TellingLemmas
pub mod CheckOutcomeLemmas
pub mod CheckLemmas
pub mod OutcomeLemmas
mod StatedLemmas
pub mod UnderSchemaLemmas

-- Lemmas of lower crates, re-exported.
