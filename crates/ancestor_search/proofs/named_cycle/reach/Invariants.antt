use Rattle.std.proofs.Common.{take}
use Rattle.std.specs.BTreeMap.{btree_map_len}
use Rattle.ancestor_search.specs.Hierarchy.{referenced}
use Rattle.ancestor_search.specs.inner.Backwards.{Reaches, is_one_of, dist_of}
use Rattle.ancestor_search.proofs.named_cycle.reach.Given as goal

abbrev pub invariant-loop-uid : goal.invariant-loop-uid
invariant-loop-uid l = Reaches (is_one_of (referenced (take l.uid-index l.uids))) l.far (dist_of l.fn.reached) (dist_of l.reached) (referenced l.fn.level.items) (referenced l.level.items) (btree_map_len l.fn.reached) (btree_map_len l.reached)
