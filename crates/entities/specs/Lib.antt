pub mod Faults
pub mod EntityForms
pub mod Entities
pub mod Contexts
pub mod Requests
pub mod Canonical
pub mod StatedValues
pub mod StatedEntities
pub mod StatedRequests
pub mod ParsingLaws
pub mod Laws
pub mod inner
pub mod Texts
pub mod CanonicalLaws
pub mod CanonicalValues
pub mod ValueLaws
pub mod Parts
pub mod ValueTexts
pub mod Typing
-- of this layer
pub use Rattle.entity_data.specs as entity_data
pub use Rattle.entity_uids.specs as entity_uids
-- of lower layers
pub use Rattle.entity_data.specs.ancestor_search
pub use Rattle.entity_data.specs.evaluator_steps
pub use Rattle.entity_uids.specs.policy_grammar
pub use Rattle.schema.specs as schema
pub use Rattle.schema.specs.schema_reading
pub use Rattle.schema_types.specs as schema_types
