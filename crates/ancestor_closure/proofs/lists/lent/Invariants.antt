use Rattle.std.proofs.Common.{◌≡◌, take}
use Rattle.ancestor_search.specs.Hierarchy.{referenced}
use Rattle.ancestor_closure.proofs.lists.lent.Given as goal

abbrev pub invariant-loop-uid : goal.invariant-loop-uid
invariant-loop-uid l = referenced l.all.items ≡ take l.uid-index l.uids
