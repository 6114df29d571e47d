pub mod inner
pub mod Reports
pub mod Answers
pub mod Lines
pub mod Replies
pub mod Statuses
-- of lower layers
pub use Rattle.answer_lines.specs as answer_lines
pub use Rattle.site.specs as site
pub use Rattle.site.specs.entities
pub use Rattle.site.specs.schema
pub use Rattle.site.specs.stamped_store
pub use Rattle.site.specs.sync_format
pub use Rattle.site.specs.sync_messages
