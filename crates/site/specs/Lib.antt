pub mod Sites
pub mod Worlds
pub mod Promises
pub mod SystemViews
pub mod inner
pub mod Faults
pub mod Admitted
pub mod Readings
pub mod SiteViews
pub mod Steps
pub mod Inputs
pub mod Runs
pub mod Outcomes
pub mod Permitted
pub mod SoundReadings
pub mod SoundWorlds
pub mod SoundAnswers
-- of this layer
pub use Rattle.site_meaning.specs as site_meaning
-- of lower layers
pub use Rattle.entities.specs as entities
pub use Rattle.entities.specs.evaluator_steps
pub use Rattle.entity_uids.specs as entity_uids
pub use Rattle.site_meaning.specs.ancestor_search
pub use Rattle.site_meaning.specs.entity_data
pub use Rattle.site_meaning.specs.entity_hierarchy
pub use Rattle.site_meaning.specs.evaluator
pub use Rattle.site_meaning.specs.policy_grammar
pub use Rattle.site_meaning.specs.schema
pub use Rattle.site_meaning.specs.schema_reading
pub use Rattle.site_meaning.specs.schema_types
pub use Rattle.site_store.specs.authoriser
pub use Rattle.site_store.specs.stamped_store
pub use Rattle.sync_messages.specs as sync_messages
pub use Rattle.sync_messages.specs.grammar_core
pub use Rattle.sync_messages.specs.sync_format
pub use Rattle.sync_messages.specs.type_checker
pub use Rattle.sync_messages.specs.typing
pub use Rattle.sync_messages.specs.validator
