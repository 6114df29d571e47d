-- Defines which JSON describes which entity, and the error of all other JSON.
-- Source: Cedar reference guide 4.0, "Entities and context: JSON format".
-- Rules of this product: absent `attrs`, `parents` and `tags` are empty, and null is not absent; further keys of an
-- entity are ignored; no entity is an action, has tags, or is its own parent; the order of the errors.
use Rattle.std.specs.Prelude.{◌≡◌, ◌↔◌, ℕ, List, [], ◌∷◌, Some, None, Contains, IsTrue, codes}
use Rattle.std.specs.List.{AllZip}
use Rattle.serde_json.specs.Data.{Data, Items, Members, no_members, array, object}
use Rattle.serde_json.specs.Find.{get}
use Rattle.json_words.specs.Each.{list_of}
use Rattle.values.specs.Fields.{Field}
use Rattle.values.specs.Values.{record_of, fields_of}
use Rattle.values.specs.declared.entity_uid.EntityUid.{EntityUid}
use Rattle.entity_uids.specs.Uids.{IsUid}
use Rattle.entities.specs.declared.fault.EntityFault.{EntityFault}
use Rattle.entity_data.specs.ancestor_search.Hierarchy.{IsAscending}
use Rattle.entity_data.specs.declared.entity.Entity.{Entity}
use Rattle.schema_types.specs.Cedar.{Cedar}
use Rattle.schema.specs.Schemas.{StatedSchema}
use Rattle.schema.specs.WellFormed.{IsActionType}
use Rattle.entities.specs.declared.fault.EntityFault.TheVariants.{BadShape, UnknownType, ActionEntity, TagsLeftOut}
use Rattle.entities.specs.declared.fault.EntityFault.TheVariants.{BadParent, SelfParent}
use Rattle.entities.specs.StatedValues.{Reads, RefusesRecord}

-- ---- the form, whatever the type

-- `ObjectAt key d ms` holds if `d` has an object with the members `ms` at `key`, or has nothing there and `ms` is
-- empty.
pub data ObjectAt (key : List ℕ) (d : Data) : Members → Type 0 where
  object_stands : (ms : Members) → get key d ≡ Some (object ms) → ObjectAt key d ms
  no_object : get key d ≡ None → ObjectAt key d no_members

-- `ParentsAt d uids` holds if `d` has at the key `parents` an array whose items describe `uids`, index by index, or has
-- nothing there and `uids` is empty.
pub data ParentsAt (d : Data) : List EntityUid → Type 0 where
  parents_stand : (ds : Items) (uids : List EntityUid) → get (codes "parents") d ≡ Some (array ds)
      → AllZip IsUid (list_of ds) uids → ParentsAt d uids
  no_parents : get (codes "parents") d ≡ None → ParentsAt d []

-- `UidAt d uid` holds if the value of `d` at the key `uid` describes the uid `uid`.
abbrev pub UidAt : Data → EntityUid → Type 0
UidAt d uid = (found : Data) × (get (codes "uid") d ≡ Some found) × IsUid found uid

-- `HasForm d uid parents attributes tags` holds if `d` has the form of an entity: the uid `uid`, the list `parents` of
-- parents, attributes with the members `attributes`, and tags with the members `tags`.
pub record HasForm (d : Data) (uid : EntityUid) (parents : List EntityUid) (attributes tags : Members) : Type 0 where
  pub named : UidAt d uid
  pub has_attributes : ObjectAt (codes "attrs") d attributes
  pub has_tags : ObjectAt (codes "tags") d tags
  pub has_parents : ParentsAt d parents

-- ---- by the schema

-- `HasShape s name shape` holds if `name` is an entity type of the schema `s` with the shape `shape`, and not an
-- action type.
pub record HasShape (s : StatedSchema) (name : List ℕ) (shape : Cedar) : Type 0 where
  pub no_action : IsActionType name → ⊥
  pub declared : s.shape name ≡ Some shape

-- `MayHaveParent s uid parent` holds if `parent` is another entity than `uid`, and one or more steps by `memberOfTypes`
-- in the schema `s` lead from the type of `uid` to that of `parent`.
pub record MayHaveParent (s : StatedSchema) (uid parent : EntityUid) : Type 0 where
  pub other : parent ≡ uid → ⊥
  pub type_fits : IsTrue (s.may_have_parent uid.type_name parent.type_name)

-- `DescribesEntity s d e` holds if `d` describes the entity `e` under the schema `s`: `d` has the form of an entity,
-- with the uid of `e` and without tags; the type of `e` is declared, and not an action type; and the attributes of `e`
-- are the record that the attributes of `d` describe by the shape of that type. The parents of `e` ascend, without
-- duplicates; `d` lists the same parents, in any order and perhaps repeated; and `e` may have each of them.
pub record DescribesEntity (s : StatedSchema) (d : Data) (e : Entity) : Type 0 where
  pub listed : List EntityUid
  pub attributes : Members
  pub shape : Cedar
  pub form : HasForm d e.uid listed attributes no_members
  pub has_shape : HasShape s e.uid.type_name shape
  pub reads : Reads shape (object attributes) (record_of (fields_of e.attrs))
  pub fit : (parent : EntityUid) → Contains listed parent → MayHaveParent s e.uid parent
  pub ascend : IsAscending e.parents
  pub same : (parent : EntityUid) → Contains e.parents parent ↔ Contains listed parent

-- ---- JSON that describes no entity

-- `RefusesParents s uid parents fault` holds if `fault` is the error of the first of `parents` that `uid` may not have
-- under the schema `s`.
pub data RefusesParents (s : StatedSchema) (uid : EntityUid) : List EntityUid → EntityFault → Type 0 where
  self_parent : (parent : EntityUid) (more : List EntityUid) → parent ≡ uid
      → RefusesParents s uid (parent ∷ more) SelfParent
  bad_parent : (parent : EntityUid) (more : List EntityUid) → (parent ≡ uid → ⊥)
      → (IsTrue (s.may_have_parent uid.type_name parent.type_name) → ⊥)
      → RefusesParents s uid (parent ∷ more) BadParent
  later_parent : (parent : EntityUid) (more : List EntityUid) (fault : EntityFault) → MayHaveParent s uid parent
      → RefusesParents s uid more fault → RefusesParents s uid (parent ∷ more) fault

-- `RefusesEntity s d fault` holds if `d` describes no entity under the schema `s`, and `fault` is the first error, in
-- this order: of the form, of the type (`ActionEntity` before `UnknownType`), of the tags, of the attributes, and
-- of the parents.
pub data RefusesEntity (s : StatedSchema) (d : Data) : EntityFault → Type 0 where
  bad_shape : ((uid : EntityUid) (listed : List EntityUid) (attributes tags : Members)
      → HasForm d uid listed attributes tags → ⊥) → RefusesEntity s d BadShape
  action_entity : (uid : EntityUid) (listed : List EntityUid) (attributes tags : Members)
      → HasForm d uid listed attributes tags → IsActionType uid.type_name → RefusesEntity s d ActionEntity
  unknown_type : (uid : EntityUid) (listed : List EntityUid) (attributes tags : Members)
      → HasForm d uid listed attributes tags → (IsActionType uid.type_name → ⊥) → s.shape uid.type_name ≡ None
      → RefusesEntity s d UnknownType
  tags_left_out : (uid : EntityUid) (listed : List EntityUid) (attributes tags : Members) (shape : Cedar)
      → HasForm d uid listed attributes tags → HasShape s uid.type_name shape → (tags ≡ no_members → ⊥)
      → RefusesEntity s d TagsLeftOut
  bad_attributes : (uid : EntityUid) (listed : List EntityUid) (attributes : Members) (shape : Cedar)
      (fault : EntityFault) → HasForm d uid listed attributes no_members → HasShape s uid.type_name shape
      → RefusesRecord shape attributes fault → RefusesEntity s d fault
  bad_parents : (uid : EntityUid) (listed : List EntityUid) (attributes : Members) (shape : Cedar) (attrs : List Field)
      (fault : EntityFault) → HasForm d uid listed attributes no_members → HasShape s uid.type_name shape
      → Reads shape (object attributes) (record_of (fields_of attrs)) → RefusesParents s uid listed fault
      → RefusesEntity s d fault
