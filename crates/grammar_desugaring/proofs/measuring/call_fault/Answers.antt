use Rattle.std.proofs.Common.{rules}
use Rattle.grammar_desugaring.proofs.measuring.call_fault.Goals as goal

pub returns-then-count-wanted : goal.returns-then-count-wanted
returns-then-count-wanted c = search rules

pub returns-else-count-wanted : goal.returns-else-count-wanted
returns-else-count-wanted c = search rules
