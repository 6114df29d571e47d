use Rattle.std.proofs.Common.{take, []}
use Rattle.std.specs.BTreeMap.{btree_map_len}
use Rattle.ancestor_search.specs.Hierarchy.{referenced}
use Rattle.ancestor_search.specs.inner.Backwards.{Reaches, is_child_of, children_of, dist_of}
use Rattle.ancestor_search.proofs.named_cycle.next_level.Given as goal

abbrev pub invariant-loop-uid : goal.invariant-loop-uid
invariant-loop-uid l = Reaches (is_child_of (children_of l.children) (referenced (take l.uid-index l.level))) l.far (dist_of l.fn.reached) (dist_of l.reached) [] (referenced l.next.items) (btree_map_len l.fn.reached) (btree_map_len l.reached)
