use Rattle.std.proofs.Common.{◌≡◌, take}
use Rattle.ancestor_search.specs.Hierarchy.{referenced}
use Rattle.ancestor_closure.proofs.lists.shared_all.Given as goal

abbrev pub invariant-loop-uid : goal.invariant-loop-uid
invariant-loop-uid l = l.all.items ≡ referenced (take l.uid-index l.uids)
