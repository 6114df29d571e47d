use Rattle.std.proofs.Common.{◌≤◌, vec_len, length}
use Rattle.ancestor_search.specs.inner.Walking.{JoinsDownTo}
use Rattle.ancestor_search.proofs.walk.joined.Given as goal

abbrev pub invariant-loop-last : goal.invariant-loop-last
invariant-loop-last l = record { joins : JoinsDownTo l.place l.fn.bounds.items l.fn.last l.bounds.items l.last; fewer : length l.bounds.items ≤ length l.fn.bounds.items }

abbrev pub decreases-loop-last : goal.decreases-loop-last
decreases-loop-last l = vec_len l.bounds
