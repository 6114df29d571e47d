pub mod Answers
pub mod Parts
pub mod Laws
pub mod Views
pub mod inner
-- of lower layers
pub use Rattle.evaluator.specs as evaluator
pub use Rattle.evaluator.specs.ancestor_search
pub use Rattle.grammar_core.specs as grammar_core
pub use Rattle.scope_index.specs.policy_grammar
