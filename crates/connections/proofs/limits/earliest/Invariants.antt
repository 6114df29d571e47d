use Rattle.connections.proofs.LimitLemmas.{IsBest}
use Rattle.connections.proofs.limits.earliest.Given as goal

abbrev pub invariant-loop-at : goal.invariant-loop-at
invariant-loop-at l = IsBest l.claim l.slots l.at l.best
