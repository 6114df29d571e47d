use Rattle.std.proofs.Common.{rules}
use Rattle.grammar_desugaring.proofs.repeats.fault_at.Goals as goal

pub returns-in-Some : goal.returns-in-Some
returns-in-Some c = search rules
