use Rattle.ancestor_search.specs.Hierarchy.{referenced}
use Rattle.ancestor_search.specs.Search.{AddsUnseen}
use Rattle.ancestor_closure.proofs.children.add_members.Given as goal

-- the children up to here were added
abbrev pub invariant-loop-child : goal.invariant-loop-child
invariant-loop-child l = AddsUnseen (referenced l.yielded) (referenced l.fn.seen.keys) (referenced l.fn.work.items) (referenced l.seen.keys) (referenced l.work.items)
