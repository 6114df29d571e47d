use Rattle.std.proofs.Common.{◌≡◌, length, take}
use Rattle.grammar_core.proofs.pattern.same_texts.Given as goal

abbrev pub invariant-loop-at : goal.invariant-loop-at
invariant-loop-at l = (l.others ≡ l.twos) × (length l.ones ≡ length l.twos) × (take l.at l.ones ≡ take l.at l.twos)
