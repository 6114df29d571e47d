pub mod Grammar
pub mod WellFormed
pub mod inner
pub mod Expressions
-- of this layer
pub use Rattle.grammar_syntax.specs as grammar_syntax
