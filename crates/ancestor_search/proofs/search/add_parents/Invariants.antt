use Rattle.std.proofs.Common.{take}
use Rattle.ancestor_search.specs.Hierarchy.{referenced}
use Rattle.ancestor_search.specs.Search.{AddsUnseen}
use Rattle.ancestor_search.proofs.search.add_parents.Given as goal

-- the parents up to here were added
abbrev pub invariant-loop-parent : goal.invariant-loop-parent
invariant-loop-parent l = AddsUnseen (take l.parent-index l.parents) (referenced l.fn.seen.keys) (referenced l.fn.work.items) (referenced l.seen.keys) (referenced l.work.items)
