use Rattle.std.proofs.Common.{take}
use Rattle.ancestor_search.specs.inner.Walking.{Ends}
use Rattle.ancestor_search.proofs.walk.end.Given as goal

abbrev pub invariant-loop-number : goal.invariant-loop-number
invariant-loop-number l = Ends (take l.number-index l.members) l.fn.place.items l.place.items
