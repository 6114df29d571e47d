use Rattle.std.proofs.Common.{take}
use Rattle.std.specs.Prelude.{Contains}
use Rattle.values.specs.declared.entity_uid.EntityUid.{EntityUid}
use Rattle.ancestor_closure.specs.inner.OneChange.{IsInOwn, Enters}
use Rattle.ancestor_closure.proofs.cycles.enter_all.Given as goal

abbrev pub invariant-loop-entity : goal.invariant-loop-entity
invariant-loop-entity l = record {
  enters : Enters l.lists l.fn.cyclic.keys l.cyclic.keys;
  entered : (x : EntityUid) → IsInOwn (take l.entity-index l.lists) x → Contains l.cyclic.keys x;
}
