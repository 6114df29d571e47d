pub mod Faults
pub mod NumberedSummaries
pub mod Summaries
pub mod inner
pub mod Bodies
pub mod Messages
pub mod Updates
pub mod Texts
pub mod Numbered
-- of lower layers
pub use Rattle.entity_uids.specs as entity_uids
pub use Rattle.entity_uids.specs.policy_grammar
