use Rattle.std.proofs.Common.{◌≡◌}
use Rattle.ancestor_search.specs.Hierarchy.{referenced}
use Rattle.ancestor_closure.proofs.cycles.members.Given as goal

abbrev pub invariant-loop-uid : goal.invariant-loop-uid
invariant-loop-uid l = referenced l.all.items ≡ referenced l.yielded
