mod RefusalLemmas
-- of lower layers
pub use Rattle.entity_uids.proofs as of_entity_uids
