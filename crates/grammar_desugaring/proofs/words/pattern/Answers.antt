use Rattle.std.proofs.Common.{◌∙◌}
use Rattle.grammar_syntax.specs.Lexing.{spelling_of}
use Rattle.grammar_desugaring.specs.inner.StringReading.{string_meaning}
use Rattle.grammar_desugaring.proofs.words.pattern.Goals as goal

pub returns : goal.returns
returns c = c.from_literals.ensures ∙ string_meaning.pattern_is _ (spelling_of c.args.text.now c.args.token) c.in_ok-literals.ensures
