use Rattle.std.proofs.Common.{◌≡◌, [], take}
use Rattle.std.specs.Prelude.{Contains}
use Rattle.values.specs.declared.entity_uid.EntityUid.{EntityUid}
use Rattle.ancestor_search.specs.Hierarchy.{referenced}
use Rattle.ancestor_search.specs.inner.Backwards.{AreChildrenAmong}
use Rattle.ancestor_closure.specs.Lists.{ancestors_in, children_in, HasEntry}
use Rattle.ancestor_closure.proofs.whole_graph.children_among.Given as goal

abbrev pub invariant-loop-uid : goal.invariant-loop-uid
invariant-loop-uid g l = record {
  lists : (q : EntityUid) → ancestors_in l.relatives q ≡ [];
  there : (q : EntityUid) → Contains (referenced (take l.uid-index l.uids)) q → HasEntry l.relatives q;
  children : AreChildrenAmong (referenced (take l.uid-index l.uids)) (g.G.ParentsOf.parents l.graph) (children_in l.relatives);
}
