pub mod Settings
pub mod EntityArrays
pub mod Requests
pub mod Decisions
pub mod Outcomes
pub mod Bare
pub mod BareRequests
pub mod BareReading
pub mod BareEntities
pub mod StatedDecisions
pub mod DecisionLaws
pub mod inner
-- of this layer
pub use Rattle.answer_lines.specs as answer_lines
-- of lower layers
pub use Rattle.answer_lines.specs.authoriser
pub use Rattle.answer_lines.specs.policy_grammar
pub use Rattle.entity_data.specs as entity_data
