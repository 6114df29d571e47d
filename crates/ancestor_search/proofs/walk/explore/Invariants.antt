use Rattle.ancestor_search.specs.inner.Walking.{edges_of, IsWalking, KeepsSeen, IsSeen, effort}
use Rattle.ancestor_search.proofs.walk.explore.Given as goal

abbrev pub invariant-loop-last : goal.invariant-loop-last
invariant-loop-last l = record {
  walks : IsWalking (edges_of l.edges) l.walk.place.items l.walk.found.items l.walk.members.items l.walk.pending.items l.walk.bounds.items;
  kept : KeepsSeen l.fn.walk.place.items l.walk.place.items;
  reached : IsSeen l.walk.place.items l.root;
}

abbrev pub decreases-loop-last : goal.decreases-loop-last
decreases-loop-last l = effort l.walk.place.items l.walk.pending.items l.walk.bounds.items
