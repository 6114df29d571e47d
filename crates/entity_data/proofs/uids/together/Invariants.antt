use Rattle.std.proofs.Common.{◌≡◌, ◌++◌, take}
use Rattle.evaluator.specs.ancestor_search.Hierarchy.{referenced}
use Rattle.entity_data.proofs.uids.together.Given as goal

abbrev pub invariant-loop-uid : goal.invariant-loop-uid
invariant-loop-uid l = referenced l.all.items ≡ referenced l.fn.some.items ++ take l.uid-index l.others
