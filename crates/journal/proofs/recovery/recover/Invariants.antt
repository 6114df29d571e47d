use Rattle.std.proofs.Common.{◌≡◌, length}
use Rattle.journal.proofs.Recovered.{IsSoFar}
use Rattle.journal.proofs.recovery.recover.Given as goal

abbrev pub invariant-loop-line : goal.invariant-loop-line
invariant-loop-line g l = record {
  setting : g.R.Replica.setting l.replica ≡ g.R.Replica.setting l.fn.replica;
  unrecorded : g.R.Replica.unrecorded l.replica ≡ g.R.Replica.unrecorded l.fn.replica;
  so_far : IsSoFar (g.R.Replica.states (g.R.Replica.setting l.fn.replica)) g.R.Replica.checked (g.R.Replica.store l.fn.replica)
      (g.R.Replica.store l.replica) l.file l.rest;
}

abbrev pub decreases-loop-line : goal.decreases-loop-line
decreases-loop-line g l = length l.rest
