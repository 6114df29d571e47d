-- Defines when a text is the canonical text of an entity, and the error of other texts.
-- Source: Cedar reference guide 4.0, "Entities and context: JSON format".
-- Rules of this product: the order of the errors. First comes 30, for a text that is not JSON; then the error of JSON
-- that does not describe an entity of the schema; then 57, for a spelling other than the canonical one; last
-- `OtherName` (56), for another uid.
use Rattle.std.specs.Prelude.{◌≡◌, ℕ, List, Some, None}
use Rattle.serde_json.specs.Data.{Data}
use Rattle.json_words.specs.Json.{json_of}
use Rattle.values.specs.declared.entity_uid.EntityUid.{EntityUid}
use Rattle.sync_format.specs.declared.bodies.BodyFault.{BodyFault}
use Rattle.sync_format.specs.declared.bodies.BodyFault.TheVariants.{Refused, OtherName}
use Rattle.validator.specs.schema.Schemas.{StatedSchema}
use Rattle.validator.specs.entity_data.declared.entity.Entity.{Entity}
use Rattle.validator.specs.entities.declared.fault.EntityFault.{EntityFault}
use Rattle.validator.specs.entities.Faults.{code_of}
use Rattle.validator.specs.entities.Canonical.{canonical_text}
use Rattle.validator.specs.entities.StatedEntities.{DescribesEntity, RefusesEntity}

-- `DescribesText s uid text e` holds if `text` is the JSON of the entity `e` under the schema `s`, in its canonical
-- spelling, and the uid of `e` is `uid`.
pub record DescribesText (s : StatedSchema) (uid : EntityUid) (text : List ℕ) (e : Entity) : Type 0 where
  pub value : Data
  pub json : json_of text ≡ Some value
  pub states : DescribesEntity s value e
  pub canonical : canonical_text e ≡ text
  pub named : e.uid ≡ uid

-- `RefusesText s uid text fault` holds if `text` is not the canonical text of an entity with the uid `uid` under the
-- schema `s`, and `fault` is the first error of `text`.
pub data RefusesText (s : StatedSchema) (uid : EntityUid) (text : List ℕ) : BodyFault → Type 0 where
  not_json : json_of text ≡ None → RefusesText s uid text (Refused 30)
  no_entity : (d : Data) (fault : EntityFault) → json_of text ≡ Some d → RefusesEntity s d fault
      → RefusesText s uid text (Refused (code_of fault))
  other_text : (d : Data) (e : Entity) → json_of text ≡ Some d → DescribesEntity s d e → (canonical_text e ≡ text → ⊥)
      → RefusesText s uid text (Refused 57)
  other_name : (d : Data) (e : Entity) → json_of text ≡ Some d → DescribesEntity s d e → canonical_text e ≡ text
      → (e.uid ≡ uid → ⊥) → RefusesText s uid text OtherName
