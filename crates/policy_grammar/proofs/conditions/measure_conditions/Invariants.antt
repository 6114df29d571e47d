use Rattle.std.proofs.Common.{◌≡◌, ◌<◌, drop, length}
use Rattle.policy_grammar.proofs.Joining.{judged_from}
use Rattle.policy_grammar.proofs.conditions.measure_conditions.Given as goal

-- those from here on
abbrev pub invariant-loop-left : goal.invariant-loop-left
invariant-loop-left l = (l.left < length l.conditions) × (l.joined ≡ judged_from l.text (drop l.left l.conditions))

abbrev pub decreases-loop-left : goal.decreases-loop-left
decreases-loop-left l = l.left
