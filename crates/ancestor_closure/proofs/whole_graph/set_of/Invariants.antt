use Rattle.std.proofs.Common.{take}
use Rattle.std.specs.Prelude.{Contains, ◌↔◌}
use Rattle.values.specs.declared.entity_uid.EntityUid.{EntityUid}
use Rattle.ancestor_search.specs.Hierarchy.{referenced}
use Rattle.ancestor_closure.proofs.whole_graph.set_of.Given as goal

abbrev pub invariant-loop-uid : goal.invariant-loop-uid
invariant-loop-uid l = (x : EntityUid) → Contains l.found.keys x ↔ Contains (referenced (take l.uid-index l.uids)) x
