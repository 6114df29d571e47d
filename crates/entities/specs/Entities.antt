-- Defines the entity that JSON describes under a schema, or the first error.
-- Source: Cedar reference guide 4.0, "Entities and context: JSON format" and "Schema JSON format": an entity's
-- attributes are those of its type's shape, and its parents are of types that `memberOfTypes` leads to.
-- Rules of this product: the order of the errors; no entity has the type of an action; no entity has tags; no entity is
-- its own parent.
use Rattle.std.specs.Prelude.{◌||◌, ◌==◌, ℕ, List, [], ◌∷◌, Bool, not, codes, ⊤, Result, Ok}
use Rattle.std.specs.List.{ends_with}
use Rattle.std.specs.Str.{bytes_eq}
use Rattle.serde_json.specs.Data.{Data}
use Rattle.serde_json.specs.Find.{get}
use Rattle.json_words.specs.ReadsAs.{◌>>=◌, or_fault, demand}
use Rattle.values.specs.declared.entity_uid.EntityUid.{EntityUid}
use Rattle.values.specs.Fields.{Field}
use Rattle.entity_data.specs.ancestor_search.Decided.{is_same}
use Rattle.schema_types.specs.Cedar.{Cedar}
use Rattle.schema.specs.Schemas.{StatedSchema}
use Rattle.entities.specs.Typing.{record_in}
use Rattle.entities.specs.declared.fault.EntityFault.{EntityFault}
use Rattle.entities.specs.declared.fault.EntityFault.TheVariants.{UnknownType, ActionEntity, BadParent, SelfParent}
use Rattle.entities.specs.declared.fault.EntityFault.TheVariants.{TagsLeftOut}
use Rattle.entity_data.specs.declared.entity.Entity.{Entity}
use Rattle.entities.specs.EntityForms.{is_absent_or_empty, or_empty, stated_in}
use Rattle.entity_data.specs.UidSets.{uid_set}

-- `is_action_type name` tests whether the last word of the type's name `name` is `Action`.
abbrev pub is_action_type : List ℕ → Bool
is_action_type name = bytes_eq name (codes "Action") || ends_with (λ a b. a == b) name (codes "::Action")

-- `shape_of s name` is the shape of the entity type `name` in the schema `s`: the record type of its entities'
-- attributes. It is `ActionEntity` if `name` is the type of an action, else `UnknownType` if `s` does not declare it.
unfoldable pub shape_of : StatedSchema → List ℕ → Result Cedar EntityFault
shape_of s name = do
  other ← demand ActionEntity (not (is_action_type name))
  or_fault UnknownType (s.shape name)

-- `attributes_in s name d` are the attributes that `d` describes for an entity of the type `name` of the schema `s`, or
-- the first error.
unfoldable pub attributes_in : StatedSchema → List ℕ → Data → Result (List Field) EntityFault
attributes_in s name d = do
  shape ← shape_of s name
  untagged ← demand TagsLeftOut (is_absent_or_empty (get (codes "tags") d))
  record_in shape (or_empty (get (codes "attrs") d))

-- `parent_fits s uid parent` checks that the entity `uid` may have the parent `parent` under the schema `s`: the error
-- is `SelfParent` if they are the same entity, else `BadParent` if `s` does not allow a parent of this type.
unfoldable pub parent_fits : StatedSchema → EntityUid → EntityUid → Result ⊤ EntityFault
parent_fits s uid parent = do
  other ← demand SelfParent (not (is_same parent uid))
  demand BadParent (s.may_have_parent uid.type_name parent.type_name)

-- `parents_fit s uid ps` checks that the entity `uid` may have each of the parents `ps` under the schema `s`; the first
-- that it may not have gives the error.
unfoldable pub parents_fit : StatedSchema → EntityUid → List EntityUid → Result ⊤ EntityFault
parents_fit s uid [] = Ok tt
parents_fit s uid (p ∷ ps) = do
  fits ← parent_fits s uid p
  parents_fit s uid ps

-- `parents_in s uid ps` are the parents `ps`, ascending and without duplicates, if the entity `uid` may have them under
-- the schema `s`; else the error of `parents_fit`.
unfoldable pub parents_in : StatedSchema → EntityUid → List EntityUid → Result (List EntityUid) EntityFault
parents_in s uid ps = do
  fit ← parents_fit s uid ps
  Ok (uid_set ps)

-- `entity_stated_in s d` is the entity that `d` describes under the schema `s`, or its first error: of its form, then
-- of its type, its tags, its attributes and its parents.
unfoldable pub entity_stated_in : StatedSchema → Data → Result Entity EntityFault
entity_stated_in s d = do
  stated ← stated_in d
  attrs ← attributes_in s stated.uid.type_name d
  parents ← parents_in s stated.uid stated.parents
  Ok (record { uid = stated.uid; attrs = attrs; parents = parents })
