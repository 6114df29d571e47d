pub mod VariableFields
pub mod OwnershipViews
pub mod Evaluation
pub mod Laws
pub mod Operators
pub mod Outcomes
pub mod inner
-- of this layer
pub use Rattle.evaluator_steps.specs as evaluator_steps
-- of lower layers
pub use Rattle.ancestor_search.specs as ancestor_search
