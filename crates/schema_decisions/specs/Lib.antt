pub mod CheckRefusals
pub mod Lines
pub mod Checks
pub mod CheckOutcomes
pub mod inner
pub mod Refusals
pub mod Policies
pub mod UnderSchema
pub mod Decisions
pub mod Outcomes
pub mod StatedDecisions
-- of this layer
pub use Rattle.decision_texts.specs as decision_texts
pub use Rattle.decision_texts.specs.answer_lines
-- of lower layers
pub use Rattle.decision_texts.specs.entity_data
pub use Rattle.decision_texts.specs.policy_grammar
pub use Rattle.validator.specs as validator
pub use Rattle.validator.specs.schema
pub use Rattle.validator.specs.schema_types
pub use Rattle.validator.specs.typing
