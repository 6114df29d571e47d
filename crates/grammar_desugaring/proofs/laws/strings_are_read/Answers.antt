use Rattle.grammar_desugaring.specs.inner.StringReading.{string_meaning}
use Rattle.grammar_desugaring.proofs.laws.strings_are_read.Goals as goal

pub returns : goal.returns
returns c = record { values = string_meaning.value_is; patterns = string_meaning.pattern_is }
