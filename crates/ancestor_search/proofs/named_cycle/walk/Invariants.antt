use Rattle.ancestor_search.specs.Hierarchy.{referenced}
use Rattle.ancestor_search.specs.inner.Backwards.{dist_of}
use Rattle.ancestor_search.proofs.Walks.{Walking}
use Rattle.ancestor_search.proofs.named_cycle.walk.Given as goal

abbrev pub invariant-loop-far : goal.invariant-loop-far
invariant-loop-far g l = Walking (g.G.ParentsOf.parents l.graph) l.start (dist_of l.distances) l.far (referenced l.found.items) l.last
