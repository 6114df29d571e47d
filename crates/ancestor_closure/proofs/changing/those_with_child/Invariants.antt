use Rattle.std.proofs.Common.{take}
use Rattle.std.specs.Prelude.{Contains}
use Rattle.ancestor_search.proofs.Picking.{Picked}
use Rattle.ancestor_closure.specs.Lists.{children_in}
use Rattle.ancestor_closure.proofs.changing.those_with_child.Given as goal

abbrev pub invariant-loop-entity : goal.invariant-loop-entity
invariant-loop-entity l = Picked (λ x. Contains (children_in l.relatives x) l.child) (take l.entity-index l.entities) l.found.items
