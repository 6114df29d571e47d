pub mod Puts
pub mod Loads
pub mod inner
-- of this layer
pub use Rattle.site.specs as site
-- of lower layers
pub use Rattle.schema_decisions.specs.decision_texts
pub use Rattle.schema_decisions.specs.schema
