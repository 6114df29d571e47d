use Rattle.std.proofs.Common.{◌-◌, ◌^◌, ◌≤◌, ◌<◌}
use Rattle.std.specs.BTreeMap.{btree_map_len}
use Rattle.ancestor_search.specs.Hierarchy.{referenced}
use Rattle.ancestor_search.specs.inner.Backwards.{dist_of}
use Rattle.ancestor_search.proofs.Levels.{Reaching, IsLevel}
use Rattle.ancestor_search.proofs.named_cycle.distances.Given as goal

abbrev pub invariant-loop-end : goal.invariant-loop-end
invariant-loop-end g l = record {
  reaching : Reaching (g.G.ParentsOf.parents l.graph) l.end (dist_of l.reached) l.far;
  level : IsLevel l.end (dist_of l.reached) l.far (referenced l.level.items);
  few : l.far ≤ btree_map_len l.reached;
  small : btree_map_len l.reached < 2 ^ 63;
}

-- what can still be reached for the first time
abbrev pub decreases-loop-end : goal.decreases-loop-end
decreases-loop-end g l = 2 ^ 63 - btree_map_len l.reached
