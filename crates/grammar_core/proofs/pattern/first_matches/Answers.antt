use Rattle.std.proofs.Common.{rules}
use Rattle.grammar_core.proofs.pattern.first_matches.Goals as goal

pub returns-in-None : goal.returns-in-None
returns-in-None c = search rules
