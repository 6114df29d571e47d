use Rattle.std.proofs.Common.{rules}
use Rattle.grammar_core.proofs.pattern.Pattern.from_literals.Goals as goal

pub returns : goal.returns
returns c = search rules
