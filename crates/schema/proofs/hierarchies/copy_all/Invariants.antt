use Rattle.std.proofs.Common.{◌≡◌, take}
use Rattle.ancestor_search.specs.Hierarchy.{referenced}
use Rattle.schema.proofs.hierarchies.copy_all.Given as goal

abbrev pub invariant-loop-uid : goal.invariant-loop-uid
invariant-loop-uid l = l.copies.items ≡ referenced (take l.uid-index l.uids)
