pub mod Alike
pub mod Entities
pub mod Laws
-- of this layer
pub use Rattle.entities.specs as entities
pub use Rattle.entities.specs.entity_data
-- of lower layers
pub use Rattle.authoriser.specs as authoriser
pub use Rattle.authoriser.specs.ancestor_search
pub use Rattle.authoriser.specs.evaluator
pub use Rattle.authoriser.specs.policy_grammar
pub use Rattle.entities.specs.schema
pub use Rattle.entities.specs.schema_reading
pub use Rattle.entities.specs.schema_types
