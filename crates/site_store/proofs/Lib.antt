mod Follows
mod Giving
pub mod Unchanged
mod Read
mod Skipping
mod Suffice
mod Answered
pub mod WorldSeen
pub mod AncestorsFollow
mod Standing
mod StaysLemmas
mod Tops
-- Lemmas of lower crates, re-exported.
-- of lower layers
pub use Rattle.stamped_store.proofs as of_stamped_store
