use Rattle.connections.specs.Limits.{IsFirstAfter}
use Rattle.connections.proofs.LimitLemmas.{IsOneBelow}
use Rattle.connections.proofs.limits.next_wait.Given as goal

abbrev pub invariant-loop-slot : goal.invariant-loop-slot
invariant-loop-slot l = IsFirstAfter l.now (IsOneBelow l.limit l.slots l.slot-index) l.wait
