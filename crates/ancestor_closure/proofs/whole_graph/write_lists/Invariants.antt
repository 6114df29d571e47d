use Rattle.std.proofs.Common.{take}
use Rattle.ancestor_search.specs.Hierarchy.{referenced}
use Rattle.ancestor_closure.specs.Lists.{ancestors_in, SameChildren, KeepEntries}
use Rattle.ancestor_closure.specs.inner.WholeGraph.{AreListsOf}
use Rattle.ancestor_closure.proofs.whole_graph.write_lists.Given as goal

abbrev pub invariant-loop-uid : goal.invariant-loop-uid
invariant-loop-uid g l = record {
  lists : AreListsOf (g.G.ParentsOf.parents l.graph) (referenced (take l.uid-index l.uids)) (ancestors_in l.relatives);
  children : SameChildren l.fn.relatives l.relatives;
  stay : KeepEntries l.fn.relatives l.relatives;
}
