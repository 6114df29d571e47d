pub mod CanonicalTexts
pub mod FaultLemmas
pub mod MessageLemmas
pub mod Readings
mod Steps
mod OneOutcome
mod Exact
mod Parts
mod FormsRead
mod UpdatesRead
mod Ranges
mod SummariesRead
mod TextsRead
mod MessagesRead
mod ReadBackLemmas
mod SummaryStated
-- Lemmas of lower crates, re-exported.
-- of lower layers
pub use Rattle.validator.proofs.of_grammar_core
