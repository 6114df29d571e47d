-- Defines the theorems that each text of a policy or entity has exactly one outcome under a schema, and that canonical
-- texts are parsed as their entities.
use Rattle.std.specs.Prelude.{ℕ, List}
use Rattle.values.specs.declared.entity_uid.EntityUid.{EntityUid}
use Rattle.validator.specs.schema.Schemas.{StatedSchema}
use Rattle.validator.specs.schema.WellFormed.{IsWellFormed}
use Rattle.validator.specs.entity_data.declared.entity.Entity.{Entity}
use Rattle.validator.specs.entities.Canonical.{canonical_text}
use Rattle.validator.specs.entities.CanonicalLaws.{IsReadFrom}
use Rattle.sync_format.specs.declared.bodies.BodyFault.TheVariants.{OtherName}
use Rattle.sync_format.specs.Bodies.{HasAtMostOneOutcome, HasOutcome}
use Rattle.sync_messages.specs.Texts.{ReadsPolicy, RefusesPolicy, ReadsEntity, RefusesEntity}

-- `PoliciesHaveOneReading`: each text of a policy has exactly one outcome: one policy that passes validation, or one
-- error.
abbrev pub PoliciesHaveOneReading : Type 0
PoliciesHaveOneReading = (s : StatedSchema) (text : List ℕ)
    → HasAtMostOneOutcome (ReadsPolicy s text) (RefusesPolicy s text)
    × HasOutcome (ReadsPolicy s text) (RefusesPolicy s text)

-- `EntitiesHaveOneReading`: each text of an entity has exactly one outcome under each uid: one entity, or one error.
abbrev pub EntitiesHaveOneReading : Type 0
EntitiesHaveOneReading = (s : StatedSchema) (uid : EntityUid) (text : List ℕ)
    → HasAtMostOneOutcome (ReadsEntity s uid text) (RefusesEntity s uid text)
    × HasOutcome (ReadsEntity s uid text) (RefusesEntity s uid text)

-- `PoliciesHaveNoOtherName`: no text of a policy is rejected with `OtherName`.
abbrev pub PoliciesHaveNoOtherName : Type 0
PoliciesHaveNoOtherName = (s : StatedSchema) (text : List ℕ) → RefusesPolicy s text OtherName → ⊥

-- `CanonicalTextsAreRead`: if an entity was parsed from bytes under a well-formed schema, its canonical text is parsed
-- as the same entity, under the entity's uid.
abbrev pub CanonicalTextsAreRead : Type 0
CanonicalTextsAreRead = (s : StatedSchema) (bytes : List ℕ) (e : Entity) → IsWellFormed s → IsReadFrom s bytes e
    → ReadsEntity s e.uid (canonical_text e) e
