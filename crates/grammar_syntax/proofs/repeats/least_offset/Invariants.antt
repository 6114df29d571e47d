use Rattle.std.proofs.Common.{take}
use Rattle.grammar_syntax.specs.Repeats.{abstract_names}
use Rattle.grammar_syntax.proofs.Repeating.{Seen}
use Rattle.grammar_syntax.proofs.repeats.least_offset.Given as goal

-- the names up to here, and the least place at which one of them stood again
abbrev pub invariant-loop-mark : goal.invariant-loop-mark
invariant-loop-mark l = Seen (abstract_names (take l.mark-index l.marks)) l.seen l.least
