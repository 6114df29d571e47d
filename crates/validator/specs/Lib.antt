pub mod Names
pub mod Unknown
pub mod Passing
pub mod Outcomes
pub mod inner
-- of this layer
pub use Rattle.type_checker.specs as type_checker
pub use Rattle.type_checker.specs.typing
-- of lower layers
pub use Rattle.grammar_core.specs as grammar_core
pub use Rattle.type_checker.specs.ancestor_search
pub use Rattle.type_checker.specs.entities
pub use Rattle.type_checker.specs.entity_data
pub use Rattle.type_checker.specs.schema
pub use Rattle.type_checker.specs.schema_types
