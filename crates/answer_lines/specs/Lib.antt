pub mod Refusals
pub mod Lines
-- of lower layers
pub use Rattle.authoriser.specs as authoriser
pub use Rattle.entity_uids.specs as entity_uids
pub use Rattle.entity_uids.specs.policy_grammar
