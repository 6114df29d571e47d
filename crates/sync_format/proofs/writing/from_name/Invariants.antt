use Rattle.std.proofs.Common.{length}
use Rattle.sync_format.specs.inner.Walking.{IsFrom}
use Rattle.sync_format.proofs.writing.from_name.Given as goal

-- the skipped names are less than the name
abbrev pub invariant-loop-first : goal.invariant-loop-first
invariant-loop-first g l = record {
  from : IsFrom (g.N.Lent.named l.name) l.known l.left;
}

abbrev pub decreases-loop-first : goal.decreases-loop-first
decreases-loop-first g l = length l.left
