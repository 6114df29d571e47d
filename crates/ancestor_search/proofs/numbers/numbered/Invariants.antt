use Rattle.std.proofs.Common.{◌≡◌, length}
use Rattle.ancestor_search.specs.Hierarchy.{referenced}
use Rattle.ancestor_search.specs.inner.Numbering.{AreNumbered}
use Rattle.ancestor_search.proofs.numbers.numbered.Given as goal

abbrev pub invariant-loop-uid : goal.invariant-loop-uid
invariant-loop-uid g l = record { len : length l.edges.items ≡ l.uid-index; done : AreNumbered (g.G.ParentsOf.parents l.graph) (referenced l.uids) l.uid-index l.edges.items }
