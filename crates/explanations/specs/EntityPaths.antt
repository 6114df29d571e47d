-- Defines the path to the part of an entity's JSON that is at fault under a schema.
-- Source: Cedar reference guide 4.0, "Entities and context: JSON format".
-- Rules of this product: a uid is one part. An error of the form (30) leads to the first part of an entity that is
-- missing or malformed; an error of the type (31, 32), to `uid`; of the tags (38), to `tags`; of the attributes (33,
-- 34, 35), into `attrs`; of the parents (36, 37), to the first parent that the entity may not have.
use Rattle.std.specs.Prelude.{◌≡◌, ℕ, ◌+◌, List, [], ◌∷◌, Bool, true}
use Rattle.std.specs.Prelude.{false, is_some, Option, Some, None, Ok, Err, codes}
use Rattle.std.specs.Prelude.{if◌then◌else◌, option_and_then}
use Rattle.serde_json.specs.Data.{Data, Items, no_items, item}
use Rattle.serde_json.specs.Find.{get, as_array, as_object}
use Rattle.values.specs.declared.entity_uid.EntityUid.{EntityUid}
use Rattle.schema_types.specs.Cedar.{Cedar}
use Rattle.entities.specs.entity_uids.Uids.{uid_in}
use Rattle.entities.specs.Typing.{with_or}
use Rattle.schema_decisions.specs.schema.Schemas.{StatedSchema}
use Rattle.entities.specs.declared.fault.EntityFault.{EntityFault}
use Rattle.entities.specs.declared.fault.EntityFault.TheVariants.{BadShape, UnknownType, ActionEntity, TagsLeftOut}
use Rattle.entities.specs.declared.fault.EntityFault.TheVariants.{BadParent, SelfParent}
use Rattle.entities.specs.declared.stated.StatedEntity.{StatedEntity}
use Rattle.entities.specs.EntityForms.{is_absent_or_object, or_empty, stated_in}
use Rattle.entities.specs.Entities.{parent_fits}
use Rattle.explanations.specs.Steps.{Step, Key, Index}
use Rattle.explanations.specs.ValuePaths.{RecordFaultAt}

-- `to_key key` is the path to the member at `key`; `to_parent i` is the path to the parent at the index `i`.
abbrev pub to_key : List ℕ → List Step
to_key key = Key key ∷ []

abbrev pub to_parent : ℕ → List Step
to_parent i = Key (codes "parents") ∷ Index i ∷ []

-- ---- the form

-- A `Demand` is the result of a test of a part, with the path to that part.
abbrev pub Demand : Type 0
Demand = Bool × List Step

-- `first_unmet demands` is the path of the first of `demands` whose test failed, if there is one.
abbrev pub first_unmet : List Demand → Option (List Step)
first_unmet [] = None
first_unmet (demand ∷ more) = if demand.0 then first_unmet more else Some demand.1

-- `is_uid o` tests whether the value `o` is present and a uid; `is_absent_or_array o` tests whether it is absent or an
-- array.
abbrev pub is_uid : Option Data → Bool
is_uid None = false
is_uid (Some d) = is_some (uid_in d)

abbrev pub is_absent_or_array : Option Data → Bool
is_absent_or_array None = true
is_absent_or_array (Some d) = is_some (as_array d)

-- `items_at o` are the items of the array `o`; none if `o` is absent or another value.
abbrev pub items_at : Option Data → Items
items_at None = no_items
items_at (Some d) = with_or (as_array d) (λ ds. ds) no_items

-- `parent_demands i ds` demand that each of the parents `ds`, counted from `i`, is a uid.
abbrev pub parent_demands : ℕ → Items → List Demand
parent_demands i no_items = []
parent_demands i (item d ds) = (is_some (uid_in d), to_parent i) ∷ parent_demands (i + 1) ds

-- `parents_demands o` demand that the parents `o`, if present, are an array of uids.
abbrev pub parents_demands : Option Data → List Demand
parents_demands o = (is_absent_or_array o, to_key (codes "parents")) ∷ parent_demands 0 (items_at o)

-- `form_demands d` are the demands on the form of an entity, in order.
abbrev pub form_demands : Data → List Demand
form_demands d =
    (is_some (as_object d), [])
    ∷ (is_uid (get (codes "uid") d), to_key (codes "uid"))
    ∷ (is_absent_or_object (get (codes "attrs") d), to_key (codes "attrs"))
    ∷ (is_absent_or_object (get (codes "tags") d), to_key (codes "tags"))
    ∷ parents_demands (get (codes "parents") d)

-- ---- attributes and parents

-- `uid_at o` is the uid that the value `o` describes, if it describes one; `shape_at s o` is the shape of the type of
-- that uid, if there is one and the schema `s` declares the type.
abbrev pub uid_at : Option Data → Option EntityUid
uid_at o = option_and_then uid_in o

abbrev pub shape_at : StatedSchema → Option Data → Option Cedar
shape_at s o = option_and_then (λ uid. s.shape uid.type_name) (uid_at o)

-- `IsInAttributes s d path` holds if `path` leads to the part of the attributes of the entity `d` that is at fault
-- under the shape of the entity's type.
pub data IsInAttributes (s : StatedSchema) (d : Data) : List Step → Type 0 where
  in_attributes : (e : StatedEntity) (shape : Cedar) (path : List Step) → stated_in d ≡ Ok e
      → s.shape e.uid.type_name ≡ Some shape → RecordFaultAt shape (or_empty (get (codes "attrs") d)) path
      → IsInAttributes s d (Key (codes "attrs") ∷ path)

-- `FirstUnfit s uid i parents j` holds if the parent at index `j` is the first of `parents`, counted from `i`, that
-- `uid` may not have under the schema `s`.
pub data FirstUnfit (s : StatedSchema) (uid : EntityUid) : ℕ → List EntityUid → ℕ → Type 0 where
  this_parent : (i : ℕ) (parent : EntityUid) (more : List EntityUid) (f : EntityFault)
      → parent_fits s uid parent ≡ Err f → FirstUnfit s uid i (parent ∷ more) i
  later_parent : (i : ℕ) (parent : EntityUid) (more : List EntityUid) (j : ℕ) → parent_fits s uid parent ≡ Ok tt
      → FirstUnfit s uid (i + 1) more j → FirstUnfit s uid i (parent ∷ more) j

-- `IsAtParent s d path` holds if `path` leads to the first parent that the entity `d` may not have under the schema
-- `s`.
pub data IsAtParent (s : StatedSchema) (d : Data) : List Step → Type 0 where
  at_parent : (e : StatedEntity) (i : ℕ) → stated_in d ≡ Ok e → FirstUnfit s e.uid 0 e.parents i
      → IsAtParent s d (to_parent i)

-- ---- the path

-- `IsPathOf s d f path` holds if `path` leads to the part of `d` that `f` is about, where `f` is an error of `d` as an
-- entity under the schema `s`.
abbrev pub IsPathOf : StatedSchema → Data → EntityFault → List Step → Type 0
IsPathOf s d BadShape path = first_unmet (form_demands d) ≡ Some path
IsPathOf s d UnknownType path = path ≡ to_key (codes "uid")
IsPathOf s d ActionEntity path = path ≡ to_key (codes "uid")
IsPathOf s d TagsLeftOut path = path ≡ to_key (codes "tags")
IsPathOf s d BadParent path = IsAtParent s d path
IsPathOf s d SelfParent path = IsAtParent s d path
-- any other error is an error of the attributes
IsPathOf s d _ path = IsInAttributes s d path
