pub mod FromSchemas
pub mod Laws
pub mod Views
pub mod inner
pub mod Conjunctions
-- of this layer
pub use Rattle.type_capabilities.specs as type_capabilities
pub use Rattle.typing.specs as typing
-- of lower layers
pub use Rattle.entities.specs as entities
pub use Rattle.entities.specs.entity_data
pub use Rattle.entities.specs.policy_grammar
pub use Rattle.entities.specs.schema
pub use Rattle.schema_types.specs as schema_types
pub use Rattle.typing.specs.ancestor_search
pub use Rattle.typing.specs.evaluator
