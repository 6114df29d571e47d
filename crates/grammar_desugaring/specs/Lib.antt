pub mod Core
pub mod Faults
pub mod TreeMeasures
pub mod Meaning
pub mod Numbers
pub mod Repeats
pub mod BuiltFrom
pub mod StringMeaning
pub mod Strings
pub mod Sums
pub mod ReportedErrors
pub mod inner
-- of this layer
pub use Rattle.grammar_syntax.specs as grammar_syntax
