use Rattle.std.proofs.Common.{take}
use Rattle.ancestor_closure.specs.Lists.{children_in, SameLists}
use Rattle.ancestor_closure.specs.inner.OneChange.{TakesChild}
use Rattle.ancestor_closure.proofs.children.take_from_all.Given as goal

abbrev pub invariant-loop-parent : goal.invariant-loop-parent
invariant-loop-parent l = record {
  lists : SameLists l.fn.relatives l.relatives;
  takes : TakesChild (take l.parent-index l.before) l.parents l.child (children_in l.fn.relatives) (children_in l.relatives);
}
