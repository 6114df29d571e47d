use Rattle.grammar_syntax.proofs.Values.{one_value, one_pattern}
use Rattle.grammar_syntax.proofs.Patterns.{has_value, has_pattern}
use Rattle.grammar_syntax.proofs.laws.strings_have_one_meaning.Goals as goal

pub returns : goal.returns
returns c = record { some_value = has_value; one_value = one_value; some_pattern = has_pattern; one_pattern = one_pattern }
