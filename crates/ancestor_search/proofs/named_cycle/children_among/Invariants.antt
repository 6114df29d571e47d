use Rattle.std.proofs.Common.{take}
use Rattle.ancestor_search.specs.Hierarchy.{referenced}
use Rattle.ancestor_search.specs.inner.Backwards.{AreChildrenAmong, children_of}
use Rattle.ancestor_search.proofs.named_cycle.children_among.Given as goal

abbrev pub invariant-loop-uid : goal.invariant-loop-uid
invariant-loop-uid g l = AreChildrenAmong (referenced (take l.uid-index l.uids)) (g.G.ParentsOf.parents l.graph) (children_of l.children)
