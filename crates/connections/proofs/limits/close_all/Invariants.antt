use Rattle.connections.proofs.LimitLemmas.{SoFar}
use Rattle.connections.proofs.limits.close_all.Given as goal

abbrev pub invariant-loop-at : goal.invariant-loop-at
invariant-loop-at l = SoFar l.why l.fn.slots l.at l.slots
