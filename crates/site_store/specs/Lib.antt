pub mod Indexed
pub mod Winning
pub mod inner
pub mod Candidates
pub mod CacheValidity
pub mod StoreViews
-- of lower layers
pub use Rattle.scope_index.specs.grammar_core
pub use Rattle.scope_index.specs.policy_grammar
pub use Rattle.site_meaning.specs.authoriser
pub use Rattle.site_meaning.specs.entity_data
pub use Rattle.site_meaning.specs.schema
pub use Rattle.stamped_store.specs as stamped_store
