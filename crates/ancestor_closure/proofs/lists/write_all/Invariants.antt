use Rattle.std.proofs.Common.{vec_len}
use Rattle.ancestor_closure.specs.Lists.{ancestors_in, SameChildren}
use Rattle.ancestor_closure.specs.inner.OneChange.{written}
use Rattle.ancestor_closure.proofs.Written.{Writing}
use Rattle.ancestor_closure.proofs.lists.write_all.Given as goal

abbrev pub invariant-loop-entity : goal.invariant-loop-entity
invariant-loop-entity l = record {
  writing : Writing l.relatives l.lists.items (λ q. written l.fn.lists.items q (ancestors_in l.fn.relatives q));
  children : SameChildren l.fn.relatives l.relatives;
}

abbrev pub decreases-loop-entity : goal.decreases-loop-entity
decreases-loop-entity l = vec_len l.lists
