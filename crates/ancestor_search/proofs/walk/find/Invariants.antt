use Rattle.std.proofs.Common.{take}
use Rattle.ancestor_search.specs.inner.Walking.{edges_of, FindsOpen}
use Rattle.ancestor_search.proofs.walk.find.Given as goal

abbrev pub invariant-loop-number : goal.invariant-loop-number
invariant-loop-number l = FindsOpen (edges_of l.edges) l.place (take l.number-index l.members) l.fn.found.items l.found.items
