use Rattle.std.proofs.Common.{take}
use Rattle.std.specs.Prelude.{Contains}
use Rattle.values.specs.declared.entity_uid.EntityUid.{EntityUid}
use Rattle.authoriser.specs.inner.Views.{IsWithin}
use Rattle.authoriser.proofs.scopes.is_within_any.Given as goal

abbrev pub invariant-loop-entity : goal.invariant-loop-entity
invariant-loop-entity l = (entity : EntityUid) → Contains (take l.entity-index l.entities) entity → IsWithin l.known entity → ⊥
