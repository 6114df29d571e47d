pub mod Laws
pub mod MessageForms
pub mod StatedUpdates
pub mod StatedSummaries
pub mod StatedTexts
pub mod StatedMessages
pub mod ParsingLaws
pub mod ReadBack
pub mod Messages
pub mod Texts
-- of this layer
pub use Rattle.sync_format.specs as sync_format
-- of lower layers
pub use Rattle.validator.specs as validator
pub use Rattle.validator.specs.grammar_core
pub use Rattle.validator.specs.schema
pub use Rattle.validator.specs.type_checker
pub use Rattle.validator.specs.typing
