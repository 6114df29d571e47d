use Rattle.std.proofs.Common.{length}
use Rattle.journal.proofs.Recovered.{IsTornSoFar}
use Rattle.journal.proofs.recovery.has_checked.Given as goal

abbrev pub invariant-loop-line : goal.invariant-loop-line
invariant-loop-line g l = IsTornSoFar g.R.Replica.checked l.bytes l.rest

abbrev pub decreases-loop-line : goal.decreases-loop-line
decreases-loop-line g l = length l.rest
