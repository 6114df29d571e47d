pub mod StoreMeaning
pub mod ByMemberOf
pub mod TextsRead
pub mod Listed
pub mod inner
-- of lower layers
pub use Rattle.entity_hierarchy.specs as entity_hierarchy
pub use Rattle.entity_hierarchy.specs.ancestor_search
pub use Rattle.entity_hierarchy.specs.authoriser
pub use Rattle.entity_hierarchy.specs.entity_data
pub use Rattle.entity_hierarchy.specs.evaluator
pub use Rattle.entity_hierarchy.specs.policy_grammar
pub use Rattle.entity_hierarchy.specs.schema
pub use Rattle.entity_hierarchy.specs.schema_reading
pub use Rattle.entity_hierarchy.specs.schema_types
