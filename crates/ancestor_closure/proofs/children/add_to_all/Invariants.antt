use Rattle.std.proofs.Common.{take}
use Rattle.std.specs.Prelude.{Contains}
use Rattle.values.specs.declared.entity_uid.EntityUid.{EntityUid}
use Rattle.ancestor_closure.specs.Lists.{children_in, SameLists, KeepEntries, AddsChild}
use Rattle.ancestor_closure.proofs.children.add_to_all.Given as goal

abbrev pub invariant-loop-parent : goal.invariant-loop-parent
invariant-loop-parent l = record {
  lists : SameLists l.fn.relatives l.relatives;
  stay : KeepEntries l.fn.relatives l.relatives;
  adds : AddsChild l.parents l.child (children_in l.fn.relatives) (children_in l.relatives);
  added : (x : EntityUid) → Contains (take l.parent-index l.parents) x → Contains (children_in l.relatives x) l.child;
}
