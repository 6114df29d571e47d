pub mod ActionHierarchy
pub mod Entities
pub mod EntityStores
pub mod Listing
pub mod UidSets
pub mod inner
-- of lower layers
pub use Rattle.evaluator.specs as evaluator
pub use Rattle.evaluator.specs.ancestor_search
pub use Rattle.evaluator.specs.evaluator_steps
