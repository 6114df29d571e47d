-- Defines which JSON describes which content of a schema file, before names are resolved, and why other JSON describes
-- none.
-- Source: Cedar reference guide 4.0, "Schema JSON format": namespaces, `commonTypes`, `entityTypes`, `actions`.
-- Rules of this product: a namespace may lack `commonTypes`, `entityTypes` or `actions`; null at an optional key counts
-- as missing; `annotations` has any value; an action's `attributes` is an object without keys; other keys are rejected;
-- the error is `BadShape` (21).
use Rattle.std.specs.Prelude.{◌≡◌, ℕ, List, [], ◌∷◌, Option, Some, None, Contains, codes, false}
use Rattle.serde_json.specs.Data.{Data, string, object, no_members}
use Rattle.serde_json.specs.Find.{get}
use Rattle.json_words.specs.Json.{text_at}
use Rattle.plain.specs.Words.{IsIdent, IsPath}
use Rattle.schema_types.specs.Raw.{Raw}
use Rattle.schema_types.specs.declared.fault.SchemaFault.{SchemaFault}
use Rattle.schema_types.specs.declared.fault.SchemaFault.TheVariants.{BadShape}
use Rattle.schema_reading.specs.FileForm.{EntityTypeOf, AppliesToOf, ActionOf, NamespaceOf}
use Rattle.schema_reading.specs.declared.stated.StatedParent.{StatedParent}
use Rattle.schema.specs.ObjectKeys.{HasOnly, HasOther, IsAbsent}
use Rattle.schema.specs.ObjectParts.{GivenAt, NotGivenAt, MaybeAt, ListAt, WrongAt, IsArrayOf, IsNoArrayOf}
use Rattle.schema.specs.ObjectParts.{IsObjectOf, IsNoObjectOf}
use Rattle.schema.specs.StatedTypes.{form_words, StatesType, IsNoType}

-- ---- names

-- `IsName d name` holds if `d` is the string `name`, which is a Path of the policy grammar.
pub record IsName (d : Data) (name : List ℕ) : Type 0 where
  pub is_string : d ≡ string name
  pub path : IsPath name

-- `IsNoName d` holds if `d` is not a string that is a Path.
abbrev pub IsNoName : Data → Type 0
IsNoName d = (name : List ℕ) → IsName d name → ⊥

-- `IsNamespace key name` holds if `key` names the namespace `name`: `key` is the Path `name`, or `key` is empty and
-- `name` is `None`, the empty namespace.
pub data IsNamespace : List ℕ → Option (List ℕ) → Type 0 where
  empty_namespace : IsNamespace [] None
  named : (key : List ℕ) → IsPath key → IsNamespace key (Some key)

-- ---- keys

-- `entity_type_keys`, `parent_keys`, `applies_to_keys`, `action_keys` and `namespace_keys` are the keys that an entity
-- type, a member of `memberOf`, `appliesTo`, an action and a namespace may have.
abbrev pub entity_type_keys : List (List ℕ)
entity_type_keys = codes "memberOfTypes" ∷ codes "shape" ∷ codes "annotations" ∷ []

abbrev pub parent_keys : List (List ℕ)
parent_keys = codes "id" ∷ codes "type" ∷ codes "annotations" ∷ []

abbrev pub applies_to_keys : List (List ℕ)
applies_to_keys = codes "principalTypes" ∷ codes "resourceTypes" ∷ codes "context" ∷ codes "annotations" ∷ []

abbrev pub action_keys : List (List ℕ)
action_keys = codes "memberOf" ∷ codes "appliesTo" ∷ codes "attributes" ∷ codes "annotations" ∷ []

abbrev pub namespace_keys : List (List ℕ)
namespace_keys = codes "commonTypes" ∷ codes "entityTypes" ∷ codes "actions" ∷ codes "annotations" ∷ []

-- ---- declarations

-- `DescribesCommonType key d c` holds if `d`, the value at the key `key`, describes the common type `c`, a name with
-- its type.
pub record DescribesCommonType (key : List ℕ) (d : Data) (c : List ℕ × Raw) : Type 0 where
  pub name : c.0 ≡ key
  pub ident : IsIdent key
  pub no_form : Contains form_words key → ⊥
  pub type : StatesType false d c.1

-- `DescribesEntityType key d e` holds if `d`, the value at the key `key`, describes the entity type `e`.
pub record DescribesEntityType (key : List ℕ) (d : Data) (e : EntityTypeOf) : Type 0 where
  pub name : e.name ≡ key
  pub ident : IsIdent key
  pub no_action : key ≡ codes "Action" → ⊥
  pub only : HasOnly entity_type_keys d
  pub parents : ListAt (IsArrayOf IsName) (codes "memberOfTypes") d e.parents
  pub shape : MaybeAt (StatesType false) (codes "shape") d e.shape

-- `DescribesParent d p` holds if `d`, in `memberOf`, describes the parent `p` of an action.
pub record DescribesParent (d : Data) (p : StatedParent) : Type 0 where
  pub only : HasOnly parent_keys d
  pub id : text_at (codes "id") d ≡ Some p.id
  pub type_name : MaybeAt IsName (codes "type") d p.type_name

-- `DescribesAppliesTo d u` holds if `d`, at `appliesTo`, describes `u`, what an action applies to.
pub record DescribesAppliesTo (d : Data) (u : AppliesToOf) : Type 0 where
  pub only : HasOnly applies_to_keys d
  pub principals : GivenAt (IsArrayOf IsName) (codes "principalTypes") d u.principals
  pub resources : GivenAt (IsArrayOf IsName) (codes "resourceTypes") d u.resources
  pub context : MaybeAt (StatesType false) (codes "context") d u.context

-- `HasNoAttributes d` holds if the key `attributes` of `d` is absent, or has an object without members.
pub data HasNoAttributes (d : Data) : Type 0 where
  key_absent : IsAbsent (codes "attributes") d → HasNoAttributes d
  key_given_empty : get (codes "attributes") d ≡ Some (object no_members) → HasNoAttributes d

-- `DescribesAction key d a` holds if `d`, the value at the key `key`, describes the action `a`, whose id is `key`.
pub record DescribesAction (key : List ℕ) (d : Data) (a : ActionOf) : Type 0 where
  pub id : a.id ≡ key
  pub only : HasOnly action_keys d
  pub no_attributes : HasNoAttributes d
  pub parents : ListAt (IsArrayOf DescribesParent) (codes "memberOf") d a.parents
  pub applies_to : MaybeAt DescribesAppliesTo (codes "appliesTo") d a.applies_to

-- `DescribesNamespace key d n` holds if `d`, the value at the key `key`, describes the namespace `n`.
pub record DescribesNamespace (key : List ℕ) (d : Data) (n : NamespaceOf) : Type 0 where
  pub name : IsNamespace key n.name
  pub only : HasOnly namespace_keys d
  pub commons : ListAt (IsObjectOf DescribesCommonType) (codes "commonTypes") d n.commons
  pub entity_types : ListAt (IsObjectOf DescribesEntityType) (codes "entityTypes") d n.entity_types
  pub actions : ListAt (IsObjectOf DescribesAction) (codes "actions") d n.actions

-- `DescribesNamespaces d ns` holds if `d` is an object whose members describe the namespaces `ns`.
abbrev pub DescribesNamespaces : Data → List NamespaceOf → Type 0
DescribesNamespaces d ns = IsObjectOf DescribesNamespace d ns

-- ---- JSON that describes no file, by the cause

-- `IsNoCommon key d` holds if `d`, the value at the key `key`, describes no common type.
pub data IsNoCommon (key : List ℕ) (d : Data) : Type 0 where
  no_ident : (IsIdent key → ⊥) → IsNoCommon key d
  form_word : Contains form_words key → IsNoCommon key d
  no_type : IsNoType false d → IsNoCommon key d

-- `IsNoEntityType key d` holds if `d`, the value at the key `key`, describes no entity type.
pub data IsNoEntityType (key : List ℕ) (d : Data) : Type 0 where
  no_ident : (IsIdent key → ⊥) → IsNoEntityType key d
  called_action : key ≡ codes "Action" → IsNoEntityType key d
  other_key : HasOther entity_type_keys d → IsNoEntityType key d
  wrong_parents : WrongAt (IsNoArrayOf IsNoName) (codes "memberOfTypes") d → IsNoEntityType key d
  wrong_shape : WrongAt (IsNoType false) (codes "shape") d → IsNoEntityType key d

-- `IsNoParent d` holds if `d` describes no parent of an action.
pub data IsNoParent (d : Data) : Type 0 where
  other_key : HasOther parent_keys d → IsNoParent d
  no_id : text_at (codes "id") d ≡ None → IsNoParent d
  wrong_type : WrongAt IsNoName (codes "type") d → IsNoParent d

-- `IsNoAppliesTo d` holds if `d` does not describe what an action applies to.
pub data IsNoAppliesTo (d : Data) : Type 0 where
  other_key : HasOther applies_to_keys d → IsNoAppliesTo d
  wrong_principals : NotGivenAt (IsNoArrayOf IsNoName) (codes "principalTypes") d → IsNoAppliesTo d
  wrong_resources : NotGivenAt (IsNoArrayOf IsNoName) (codes "resourceTypes") d → IsNoAppliesTo d
  wrong_context : WrongAt (IsNoType false) (codes "context") d → IsNoAppliesTo d

-- `IsNoAction d` holds if `d` describes no action.
pub data IsNoAction (d : Data) : Type 0 where
  other_key : HasOther action_keys d → IsNoAction d
  has_attributes : (HasNoAttributes d → ⊥) → IsNoAction d
  wrong_parents : WrongAt (IsNoArrayOf IsNoParent) (codes "memberOf") d → IsNoAction d
  wrong_use : WrongAt IsNoAppliesTo (codes "appliesTo") d → IsNoAction d

-- `IsNoNamespace key d` holds if `d`, the value at the key `key`, describes no namespace.
pub data IsNoNamespace (key : List ℕ) (d : Data) : Type 0 where
  no_name : ((name : Option (List ℕ)) → IsNamespace key name → ⊥) → IsNoNamespace key d
  other_key : HasOther namespace_keys d → IsNoNamespace key d
  wrong_commons : WrongAt (IsNoObjectOf IsNoCommon) (codes "commonTypes") d → IsNoNamespace key d
  wrong_entity_types : WrongAt (IsNoObjectOf IsNoEntityType) (codes "entityTypes") d → IsNoNamespace key d
  wrong_actions : WrongAt (IsNoObjectOf (λ id. IsNoAction)) (codes "actions") d → IsNoNamespace key d

-- `IsNoFile d` holds if `d` is not an object, or has a member that describes no namespace.
abbrev pub IsNoFile : Data → Type 0
IsNoFile d = IsNoObjectOf IsNoNamespace d

-- `RefusesFile d fault` holds if `d` describes no file, and `fault` is `BadShape`, whatever the cause.
abbrev pub RefusesFile : Data → SchemaFault → Type 0
RefusesFile d fault = (fault ≡ BadShape) × IsNoFile d
