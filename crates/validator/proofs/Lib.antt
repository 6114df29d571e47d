pub mod CheckLemmas
pub mod HalvesLemmas
pub mod JudgeLemmas
pub mod KnownLemmas
pub mod OutcomeLemmas
pub mod WalkLemmas
-- Lemmas of lower crates, re-exported.
-- of lower layers
pub use Rattle.grammar_core.proofs as of_grammar_core
