use Rattle.std.proofs.Common.{take}
use Rattle.ancestor_closure.specs.Lists.{ancestors_in}
use Rattle.ancestor_closure.specs.inner.OneChange.{Leaves}
use Rattle.ancestor_closure.proofs.cycles.leave_all.Given as goal

abbrev pub invariant-loop-entity : goal.invariant-loop-entity
invariant-loop-entity l = Leaves (take l.entity-index l.entities) (ancestors_in l.relatives) l.fn.cyclic.keys l.cyclic.keys
