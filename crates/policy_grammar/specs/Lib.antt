pub mod Faults
pub mod Texts
pub mod Annotations
pub mod inner
pub mod PolicyExpression
pub mod Conditions
pub mod CoreOf
pub mod Limits
pub mod Repeats
pub mod PolicyText
pub mod Unique
pub mod Cuts
pub mod SameReadings
-- of this layer
pub use Rattle.grammar_desugaring.specs as grammar_desugaring
pub use Rattle.grammar_parsing.specs.grammar_syntax
