use Rattle.std.proofs.Common.{take}
use Rattle.ancestor_search.specs.inner.Backwards.{AddsToChildren, children_of}
use Rattle.ancestor_search.proofs.named_cycle.add_child.Given as goal

abbrev pub invariant-loop-parent : goal.invariant-loop-parent
invariant-loop-parent l = AddsToChildren (take l.parent-index l.parents) l.child (children_of l.fn.children) (children_of l.children)
