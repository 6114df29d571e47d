-- Defines the content of a schema file, before names are resolved.
-- Source: Cedar reference guide, "Schema JSON format": namespaces, `commonTypes`, `entityTypes`, `actions`.
-- Rules of this product: a namespace may lack any of `commonTypes`, `entityTypes`, `actions`; null at an optional key
-- counts as missing; `annotations` has any value; an action's `attributes` is an object without keys; other keys are
-- rejected.
use Rattle.std.specs.Prelude.{ℕ, List, [], ◌∷◌, Bool, true, false, not, codes, Option, Some, None, Result, Ok}
use Rattle.std.specs.Str.{bytes_eq}
use Rattle.serde_json.specs.Data.{Data, Items, Members, no_members}
use Rattle.serde_json.specs.Find.{get, as_str, as_array, as_object}
use Rattle.json_words.specs.ReadsAs.{◌>>=◌, or_fault, demand}
use Rattle.json_words.specs.Keys.{has_only}
use Rattle.json_words.specs.Each.{each, list_of, each_member}
use Rattle.schema_types.specs.Raw.{Raw}
use Rattle.schema_types.specs.Forms.{form_named}
use Rattle.schema_types.specs.Names.{is_qualified}
use Rattle.schema_types.specs.Optional.{optional, required_text}
use Rattle.schema_types.specs.TypeShape.{type_name, type_of}
use Rattle.schema_types.specs.declared.forms.Form.{Form}
use Rattle.schema_types.specs.declared.forms.Form.TheVariants.{Text, Long, Boolean, Set, Record, Entity, Extension}
use Rattle.schema_types.specs.declared.forms.Form.TheVariants.{EntityOrCommon, Common}
use Rattle.schema_reading.specs.declared.stated.StatedParent.{StatedParent}
use Rattle.schema_types.specs.declared.fault.SchemaFault.{SchemaFault}
use Rattle.schema_types.specs.declared.fault.SchemaFault.TheVariants.{BadShape}

-- ---- the content

-- An `EntityTypeOf` is an entity type of the file: its name, its parent types and its shape, if it has one.
pub record EntityTypeOf : Type 0 where
  pub name : List ℕ
  pub parents : List (List ℕ)
  pub shape : Option Raw

-- An `AppliesToOf` is what an action applies to: the types of principals and resources, and the context's type, if it
-- has one.
pub record AppliesToOf : Type 0 where
  pub principals : List (List ℕ)
  pub resources : List (List ℕ)
  pub context : Option Raw

-- An `ActionOf` is an action of the file: its id, its parents, and what it applies to, if the file has its `appliesTo`.
pub record ActionOf : Type 0 where
  pub id : List ℕ
  pub parents : List StatedParent
  pub applies_to : Option AppliesToOf

-- A `NamespaceOf` is a namespace of the file, with its declarations; the empty namespace has no name.
pub record NamespaceOf : Type 0 where
  pub name : Option (List ℕ)
  pub commons : List (List ℕ × Raw)
  pub entity_types : List EntityTypeOf
  pub actions : List ActionOf

-- ---- parsing

-- `members_in o` are the members of the object in `o`; none if `o` is `None`, and `BadShape` if the value in `o` is not
-- an object.
abbrev pub members_in : Option Data → Result Members SchemaFault
members_in None = Ok no_members
members_in (Some d) = or_fault BadShape (as_object d)

-- `ident w` is the name `w`, or `BadShape` if it is not an Ident, that is, a Path of one word.
unfoldable pub ident : List ℕ → Result (List ℕ) SchemaFault
ident w = do
  path ← type_name w
  one ← demand BadShape (not (is_qualified w))
  Ok path

-- `name_of d` is the name in the string `d`; `BadShape` if `d` is not a string, or the string is not a Path.
unfoldable pub name_of : Data → Result (List ℕ) SchemaFault
name_of d = do
  w ← or_fault BadShape (as_str d)
  type_name w

-- `names_of ds` are the names in the elements `ds` of an array, each a string, or the first error.
unfoldable pub names_of : Items → Result (List (List ℕ)) SchemaFault
names_of ds = each (λ i d. name_of d) 0 (list_of ds)

-- `names_in o` are the names in the array in `o`, or the first error; none if `o` is `None`.
abbrev pub names_in : Option Data → Result (List (List ℕ)) SchemaFault
names_in None = Ok []
names_in (Some d) = do
  ds ← or_fault BadShape (as_array d)
  names_of ds

-- `names_at k d` are the names in the array of `d` at the required key `k`, or the first error.
abbrev pub names_at : List ℕ → Data → Result (List (List ℕ)) SchemaFault
names_at k d = do
  found ← or_fault BadShape (get k d)
  ds ← or_fault BadShape (as_array found)
  names_of ds

-- `type_in o` is the type that the value in `o` describes, or the first error; `None` if `o` is `None`.
abbrev pub type_in : Option Data → Result (Option Raw) SchemaFault
type_in None = Ok None
type_in (Some d) = do
  t ← type_of false d
  Ok (Some t)

-- `optional_name o` is the name in the string in `o`, or `BadShape`; `None` if `o` is `None`.
abbrev pub optional_name : Option Data → Result (Option (List ℕ)) SchemaFault
optional_name None = Ok None
optional_name (Some d) = do
  n ← name_of d
  Ok (Some n)

-- ---- common types

-- `is_common form` tests whether `form` is `Common`: a name that selects another form may not be that of a common type.
abbrev pub is_common : Form → Bool
is_common Text = false
is_common Long = false
is_common Boolean = false
is_common Set = false
is_common Record = false
is_common Entity = false
is_common Extension = false
is_common EntityOrCommon = false
is_common Common = true

-- `common_of k d` is the common type with the name `k` that `d` describes, or the first error.
unfoldable pub common_of : List ℕ → Data → Result (List ℕ × Raw) SchemaFault
common_of k d = do
  name ← ident k
  free ← demand BadShape (is_common (form_named k))
  t ← type_of false d
  Ok (name, t)

-- ---- entity types

-- `entity_type_name k` is the name `k` of an entity type, or `BadShape` if it is not an Ident, or is `Action`.
abbrev pub entity_type_name : List ℕ → Result (List ℕ) SchemaFault
entity_type_name k = do
  name ← ident k
  free ← demand BadShape (not (bytes_eq k (codes "Action")))
  Ok name

-- `entity_type_of k d` is the entity type with the name `k` that `d` describes, or the first error.
unfoldable pub entity_type_of : List ℕ → Data → Result EntityTypeOf SchemaFault
entity_type_of k d = do
  name ← entity_type_name k
  keys ← demand BadShape (has_only (codes "memberOfTypes" ∷ codes "shape" ∷ codes "annotations" ∷ []) d)
  parents ← names_in (optional (codes "memberOfTypes") d)
  shape ← type_in (optional (codes "shape") d)
  Ok (record { name = name; parents = parents; shape = shape })

-- ---- actions

-- `parent_of d` is an action's parent: its id, and its type if `d` has one; or the first error.
unfoldable pub parent_of : Data → Result StatedParent SchemaFault
parent_of d = do
  keys ← demand BadShape (has_only (codes "id" ∷ codes "type" ∷ codes "annotations" ∷ []) d)
  id ← required_text (codes "id") d
  type_name ← optional_name (optional (codes "type") d)
  Ok (record { type_name = type_name; id = id })

-- `parents_of ds` are the parents of an action that the elements `ds` of an array describe, or the first error.
unfoldable pub parents_of : Items → Result (List StatedParent) SchemaFault
parents_of ds = each (λ i d. parent_of d) 0 (list_of ds)

-- `parents_in o` are the parents of an action that the array in `o` describes, or the first error; none if `o` is
-- `None`.
abbrev pub parents_in : Option Data → Result (List StatedParent) SchemaFault
parents_in None = Ok []
parents_in (Some d) = do
  ds ← or_fault BadShape (as_array d)
  parents_of ds

-- `applies_to_of d` is what an action applies to, as `d` describes it, or the first error.
unfoldable pub applies_to_of : Data → Result AppliesToOf SchemaFault
applies_to_of d = do
  keys ← demand BadShape
      (has_only (codes "principalTypes" ∷ codes "resourceTypes" ∷ codes "context" ∷ codes "annotations" ∷ []) d)
  principals ← names_at (codes "principalTypes") d
  resources ← names_at (codes "resourceTypes") d
  context ← type_in (optional (codes "context") d)
  Ok (record { principals = principals; resources = resources; context = context })

-- `applies_to_in o` is what an action applies to, as the value in `o` describes it, or the first error; `None` if `o`
-- is `None`.
abbrev pub applies_to_in : Option Data → Result (Option AppliesToOf) SchemaFault
applies_to_in None = Ok None
applies_to_in (Some d) = do
  applied ← applies_to_of d
  Ok (Some applied)

-- `is_empty_in o` tests whether `o` is `None`, or the value in `o` is an object without members.
abbrev pub is_empty_in : Option Data → Bool
is_empty_in None = true
is_empty_in (Some d) = has_only [] d

-- `action_of k d` is the action with the id `k` that `d` describes, or the first error.
unfoldable pub action_of : List ℕ → Data → Result ActionOf SchemaFault
action_of k d = do
  keys ← demand BadShape
      (has_only (codes "memberOf" ∷ codes "appliesTo" ∷ codes "attributes" ∷ codes "annotations" ∷ []) d)
  empty ← demand BadShape (is_empty_in (optional (codes "attributes") d))
  parents ← parents_in (optional (codes "memberOf") d)
  applies_to ← applies_to_in (optional (codes "appliesTo") d)
  Ok (record { id = k; parents = parents; applies_to = applies_to })

-- ---- namespaces

-- `namespace_name k` is the name of the namespace at the key `k`: `None` for the empty string, which is the empty
-- namespace, and `BadShape` if `k` is not a Path.
unfoldable pub namespace_name : List ℕ → Result (Option (List ℕ)) SchemaFault
namespace_name [] = Ok None
namespace_name (c ∷ cs) = do
  name ← type_name (c ∷ cs)
  Ok (Some name)

-- `commons_of ms`, `entity_types_of ms` and `actions_of ms` are the declarations that the members `ms` describe, each
-- with its key as its name, or the first error.
unfoldable pub commons_of : Members → Result (List (List ℕ × Raw)) SchemaFault
commons_of ms = each_member common_of ms

unfoldable pub entity_types_of : Members → Result (List EntityTypeOf) SchemaFault
entity_types_of ms = each_member entity_type_of ms

unfoldable pub actions_of : Members → Result (List ActionOf) SchemaFault
actions_of ms = each_member action_of ms

-- `commons_in found`, `entity_types_in found` and `actions_in found` are the declarations that the object in `found`
-- describes, or the first error; none if `found` is `None`.
abbrev pub commons_in : Option Data → Result (List (List ℕ × Raw)) SchemaFault
commons_in found = do
  ms ← members_in found
  commons_of ms

abbrev pub entity_types_in : Option Data → Result (List EntityTypeOf) SchemaFault
entity_types_in found = do
  ms ← members_in found
  entity_types_of ms

abbrev pub actions_in : Option Data → Result (List ActionOf) SchemaFault
actions_in found = do
  ms ← members_in found
  actions_of ms

-- `namespace_of k d` is the namespace at the key `k` that `d` describes, or the first error.
unfoldable pub namespace_of : List ℕ → Data → Result NamespaceOf SchemaFault
namespace_of k d = do
  name ← namespace_name k
  keys ← demand BadShape
      (has_only (codes "commonTypes" ∷ codes "entityTypes" ∷ codes "actions" ∷ codes "annotations" ∷ []) d)
  commons ← commons_in (optional (codes "commonTypes") d)
  entity_types ← entity_types_in (optional (codes "entityTypes") d)
  actions ← actions_in (optional (codes "actions") d)
  Ok (record { name = name; commons = commons; entity_types = entity_types; actions = actions })

-- `namespaces_of ms` are the namespaces that the members `ms` describe, or the first error.
unfoldable pub namespaces_of : Members → Result (List NamespaceOf) SchemaFault
namespaces_of ms = each_member namespace_of ms

-- `stated d` are the namespaces of the schema file `d`, which must be an object of namespaces, or the first error.
unfoldable pub stated : Data → Result (List NamespaceOf) SchemaFault
stated d = do
  ms ← or_fault BadShape (as_object d)
  namespaces_of ms
