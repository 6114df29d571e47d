pub mod Drills
pub mod Lines
pub mod ScriptLines
pub mod Scripts
pub mod EventReports
pub mod inner
-- of lower layers
pub use Rattle.http_service.specs as http_service
pub use Rattle.http_service.specs.http_replies
pub use Rattle.http_service.specs.sync_messages
pub use Rattle.schema_decisions.specs as schema_decisions
pub use Rattle.schema_decisions.specs.answer_lines
pub use Rattle.schema_decisions.specs.entity_data
pub use Rattle.schema_decisions.specs.policy_grammar
