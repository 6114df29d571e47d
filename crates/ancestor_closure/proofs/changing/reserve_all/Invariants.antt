use Rattle.std.proofs.Common.{take}
use Rattle.std.specs.Prelude.{Contains}
use Rattle.values.specs.declared.entity_uid.EntityUid.{EntityUid}
use Rattle.ancestor_search.specs.Hierarchy.{referenced}
use Rattle.ancestor_closure.specs.Lists.{SameLists, SameChildren, KeepEntries, HasEntry}
use Rattle.ancestor_closure.proofs.changing.reserve_all.Given as goal

abbrev pub invariant-loop-uid : goal.invariant-loop-uid
invariant-loop-uid l = record {
  lists : SameLists l.fn.relatives l.relatives;
  children : SameChildren l.fn.relatives l.relatives;
  stay : KeepEntries l.fn.relatives l.relatives;
  there : (x : EntityUid) → Contains (referenced (take l.uid-index l.uids)) x → HasEntry l.relatives x;
}
