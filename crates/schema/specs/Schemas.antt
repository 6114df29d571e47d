-- Defines the schema that bytes describe, and the first error of bytes that describe none.
-- Source: Cedar reference guide 4.0, "Schema JSON format": `shape`, `memberOfTypes`, `memberOf`, `appliesTo`.
-- Rules of this product: the limits on types (10,000 nodes, 64 deep); no action is its own ancestor; the order of the
-- errors, with their codes: not JSON (20), then a wrong form anywhere (21), unknown names (22), cycles of common
-- types (23), cycles of actions (24), types that are too large (25); the label of a schema is SHA-256 (FIPS 180-4) of
-- its bytes, in lower case hexadecimal digits.
use Rattle.std.specs.Prelude.{◌≡◌, ◌↔◌, ℕ, List, [], ◌∷◌, map, Contains, IsTrue, IsSome, Bool, Option, Some, None}
use Rattle.std.specs.List.Sorted.{IsStrictlySortedBy}
use Rattle.sha2.specs.Sha256.{sha256}
use Rattle.hex.specs.Hex.{encode_lower}
use Rattle.serde_json.specs.Data.{Data}
use Rattle.json_words.specs.Json.{json_of}
use Rattle.values.specs.declared.entity_uid.EntityUid.{EntityUid}
use Rattle.ancestor_search.specs.Hierarchy.{Parents, IsAncestor, AreAllAncestorsOf, IsAscending, IsOnCycle, no_parents}
use Rattle.ancestor_search.specs.Hierarchy.{with_parents}
use Rattle.schema_types.specs.Qualified as qualified
use Rattle.schema_types.specs.Qualified.{Qualified}
use Rattle.schema_types.specs.Cedar.{Cedar, record_of, no_fields, IsTooLarge}
use Rattle.schema_types.specs.Expansions.{Declarations, Declares, IsExpansion}
use Rattle.schema_types.specs.Mentions.{Leads}
use Rattle.schema_types.specs.declared.fault.SchemaFault.{SchemaFault}
use Rattle.schema_types.specs.declared.fault.SchemaFault.TheVariants.{NotJson, BadShape, UnknownName, TypeCycle}
use Rattle.schema_types.specs.declared.fault.SchemaFault.TheVariants.{ActionCycle, TypeTooLarge}
use Rattle.schema_reading.specs.FileForm.{NamespaceOf}
use Rattle.schema_reading.specs.Qualifying.{ResolvedEntityType, ResolvedAppliesTo, ResolvedAction, ResolvedSchema}
use Rattle.schema_reading.specs.Laws.{IsShapeOrContext}
use Rattle.schema.specs.declared.parts.EnvironmentKey.{EnvironmentKey}
use Rattle.schema.specs.StatedFiles.{DescribesNamespaces, IsNoFile}
use Rattle.schema.specs.NamesResolved.{ResolvesFile, FileHasUnknown}
use Rattle.schema.specs.NoRecords.{SomeIsNotRecord}
pub use Rattle.schema.specs.Places.{place_cmp}

-- ---- the abstract schema

-- An `EnvironmentOf` is an environment: its place (an action with the types of principal and resource), and the type of
-- the action's context.
pub record EnvironmentOf : Type 0 where
  pub place : EnvironmentKey
  pub context : Cedar

-- A `StatedSchema` is an abstract schema: its label, lists and look-ups.
pub record StatedSchema : Type 0 where
  pub label : List ℕ
  pub environments : List EnvironmentOf
  pub actions : List EntityUid
  -- the attributes of a declared entity type, as a record
  pub shape : List ℕ → Option Cedar
  -- the parents of a declared action, as `memberOf` lists them
  pub member_of : EntityUid → Option (List EntityUid)
  -- the ancestors of a declared action
  pub ancestors : EntityUid → Option (List EntityUid)
  -- whether the second type is an ancestor of the first by `memberOfTypes`
  pub may_have_parent : List ℕ → List ℕ → Bool

-- `ActionHasAncestor v u above` holds if the action `u` is declared in the schema `v`, and `above` is its ancestor.
abbrev pub ActionHasAncestor : StatedSchema → EntityUid → EntityUid → Type 0
ActionHasAncestor v u above = (us : List EntityUid) × (v.ancestors u ≡ Some us) × Contains us above

-- ---- hierarchies

-- `with_actions parents actions` is `parents`, except that each of `actions` in turn gets the parents that its
-- `memberOf` lists.
abbrev pub with_actions : Parents → List ResolvedAction → Parents
with_actions parents [] = parents
with_actions parents (a ∷ rest) = with_actions (with_parents parents a.uid a.parents) rest

-- `action_parents s` are the parents of each action of `s`, as its `memberOf` lists them.
abbrev pub action_parents : ResolvedSchema → Parents
action_parents s = with_actions no_parents s.actions

-- `type_uid name` is the entity type `name` as a node of a hierarchy: the uid of this type with an empty id.
abbrev pub type_uid : List ℕ → EntityUid
type_uid name = record { type_name = name; id = [] }

-- `with_types parents es` is `parents`, except that each entity type of `es` in turn gets the parents that its
-- `memberOfTypes` lists.
abbrev pub with_types : Parents → List ResolvedEntityType → Parents
with_types parents [] = parents
with_types parents (e ∷ rest) =
    with_types (with_parents parents (type_uid e.name) (map type_uid e.parents)) rest

-- `type_parents s` are the parents of each entity type of `s`, as its `memberOfTypes` lists them.
abbrev pub type_parents : ResolvedSchema → Parents
type_parents s = with_types no_parents s.entity_types

-- `SomeActionIsOnCycle s` holds if some action of `s` is its own ancestor.
abbrev pub SomeActionIsOnCycle : ResolvedSchema → Type 0
SomeActionIsOnCycle s = (u : EntityUid) × IsOnCycle (action_parents s) u

-- ---- expanded types

-- `IsRecordOf commons r t` holds if `t` is the expansion of the shape or context in `r`, or the record without
-- attributes if `r` is `None`; `commons` are the declared common types.
abbrev pub IsRecordOf : Declarations → Option Qualified → Cedar → Type 0
IsRecordOf commons None t = t ≡ record_of no_fields
IsRecordOf commons (Some r) t = IsExpansion commons r t

-- `IsSchemaType s r` holds if `r` is a type of the schema `s`: a shape, a context or the name of a common type.
pub data IsSchemaType (s : ResolvedSchema) : Qualified → Type 0 where
  common : (q : List ℕ) (r : Qualified) → Declares s.commons q r → IsSchemaType s (qualified.common q)
  shape_or_context : (r : Qualified) → IsShapeOrContext s r → IsSchemaType s r

-- `HasSmallExpansion commons r` holds if the type `r` has an expansion within the limits; `commons` are the declared
-- common types.
abbrev pub HasSmallExpansion : Declarations → Qualified → Type 0
HasSmallExpansion commons r = (t : Cedar) × IsExpansion commons r t × (IsTooLarge t → ⊥)

-- `SomeTypeIsTooLarge s` holds if the expansion of some type of the schema `s` is too large.
pub record SomeTypeIsTooLarge (s : ResolvedSchema) : Type 0 where
  pub type : Qualified
  pub whole : Cedar
  pub is_type : IsSchemaType s type
  pub is_expansion : IsExpansion s.commons type whole
  pub too_large : IsTooLarge whole

-- ---- the schema of a file with resolved names

-- `IsAction s u` holds if the action `u` is declared in `s`.
abbrev pub IsAction : ResolvedSchema → EntityUid → Type 0
IsAction s u = (a : ResolvedAction) × Contains s.actions a × (a.uid ≡ u)

-- `IsShape s n t` holds if `t` is the expanded shape of the entity type `n`, which is declared in `s`.
abbrev pub IsShape : ResolvedSchema → List ℕ → Cedar → Type 0
IsShape s n t = (e : ResolvedEntityType) × Contains s.entity_types e × (e.name ≡ n) × IsRecordOf s.commons e.shape t

-- `Applies s p applied` holds if the action of the place `p` is declared in `s`, and `applied` is the `appliesTo` of
-- this action and lists the types of `p`.
pub record Applies (s : ResolvedSchema) (p : EnvironmentKey) (applied : ResolvedAppliesTo) : Type 0 where
  pub action : ResolvedAction
  pub declared : Contains s.actions action
  pub is : action.uid ≡ p.action
  pub applies : action.applies_to ≡ Some applied
  pub principal : Contains applied.principals p.principal
  pub resource : Contains applied.resources p.resource

-- `IsEnvironment s e` holds if `e` is an environment of `s`: the action of `e` applies to the types of `e`, and has the
-- context of `e`.
abbrev pub IsEnvironment : ResolvedSchema → EnvironmentOf → Type 0
IsEnvironment s e = (applied : ResolvedAppliesTo) × Applies s e.place applied
    × IsRecordOf s.commons applied.context e.context

-- `IsEnvironmentKey s p` holds if, in `s`, the action of `p` applies to the types of `p`.
abbrev pub IsEnvironmentKey : ResolvedSchema → EnvironmentKey → Type 0
IsEnvironmentKey s p = (applied : ResolvedAppliesTo) × Applies s p applied

-- `MatchesDeclarations s v` holds if each list and each look-up of `v` has exactly what `s` declares. The actions, the
-- ancestors of each action and the environments ascend, without duplicates; the parents of an action are in the order
-- of its `memberOf`.
pub record MatchesDeclarations (s : ResolvedSchema) (v : StatedSchema) : Type 0 where
  pub shapes : (n : List ℕ) (t : Cedar) → v.shape n ≡ Some t → IsShape s n t
  pub all_shapes : (e : ResolvedEntityType) → Contains s.entity_types e → IsSome (v.shape e.name)
  pub actions : (u : EntityUid) → Contains v.actions u ↔ IsAction s u
  pub actions_ascend : IsAscending v.actions
  pub member_of : (u : EntityUid) (us : List EntityUid) → v.member_of u ≡ Some us
      → IsAction s u × (us ≡ action_parents s u)
  pub all_member_of : (u : EntityUid) → IsAction s u → IsSome (v.member_of u)
  pub ancestors : (u : EntityUid) (us : List EntityUid) → v.ancestors u ≡ Some us
      → IsAction s u × IsAscending us × AreAllAncestorsOf (action_parents s) u us
  pub all_ancestors : (u : EntityUid) → IsAction s u → IsSome (v.ancestors u)
  pub parents : (child above : List ℕ)
      → IsTrue (v.may_have_parent child above) ↔ IsAncestor (type_parents s) (type_uid above) (type_uid child)
  pub environments : (e : EnvironmentOf) → Contains v.environments e → IsEnvironment s e
  pub all_environments : (p : EnvironmentKey) → IsEnvironmentKey s p → Contains (map (λ e. e.place) v.environments) p
  pub environments_ascend : IsStrictlySortedBy place_cmp (map (λ e. e.place) v.environments)

-- ---- the schema of bytes

-- `IsSound s` holds if no action of `s` is its own ancestor, and each type of `s` has an expansion within the limits.
pub record IsSound (s : ResolvedSchema) : Type 0 where
  pub no_cycle : SomeActionIsOnCycle s → ⊥
  pub has_small_expansions : (r : Qualified) → IsSchemaType s r → HasSmallExpansion s.commons r

-- `HasContent bytes ns` holds if `bytes` are JSON that describes the namespaces `ns`.
pub record HasContent (bytes : List ℕ) (ns : List NamespaceOf) : Type 0 where
  pub value : Data
  pub json : json_of bytes ≡ Some value
  pub states : DescribesNamespaces value ns

-- `HasDeclarations bytes s` holds if `bytes` are a schema file, `s` are its declarations with their names resolved, and
-- no shape or context resolves to a type that is not a record.
pub record HasDeclarations (bytes : List ℕ) (s : ResolvedSchema) : Type 0 where
  pub namespaces : List NamespaceOf
  pub content : HasContent bytes namespaces
  pub records : SomeIsNotRecord namespaces → ⊥
  pub resolved : ResolvesFile namespaces s

-- `IsSchemaOf bytes v` holds if `bytes` describe the schema `v`. The bytes are a schema file (`HasDeclarations`) where
-- no action is its own ancestor and each type has an expansion within the limits. `v` has the label of `bytes`, and
-- its lists and look-ups have what the file declares. The theorems `declarations_are_read_as_stated` and, in
-- `schema_reading`, `files_are_in_order` prove that the file declares no common type, entity type or action twice.
pub record IsSchemaOf (bytes : List ℕ) (v : StatedSchema) : Type 0 where
  pub named : ResolvedSchema
  pub states : HasDeclarations bytes named
  pub sound : IsSound named
  pub label : v.label ≡ encode_lower (sha256 bytes)
  pub answers : MatchesDeclarations named v

-- `SomeCommonLeadsBack s` holds if the declaration of some common type of `s` names that type, directly or through the
-- declarations of other common types.
abbrev pub SomeCommonLeadsBack : ResolvedSchema → Type 0
SomeCommonLeadsBack s = (q : List ℕ) × Leads s.commons q q

-- `RefusedFor bytes fault` holds if `bytes` describe no schema, and `fault` is the first error.
pub data RefusedFor (bytes : List ℕ) : SchemaFault → Type 0 where
  -- 20: the bytes are not JSON
  not_json : json_of bytes ≡ None → RefusedFor bytes NotJson
  -- 21: the JSON does not have the form of a schema file, or some shape or context is not a record
  no_file : (d : Data) → json_of bytes ≡ Some d → IsNoFile d → RefusedFor bytes BadShape
  no_record : (ns : List NamespaceOf) → HasContent bytes ns → SomeIsNotRecord ns → RefusedFor bytes BadShape
  -- 22: some name does not resolve
  unknown_name : (ns : List NamespaceOf) → HasContent bytes ns → (SomeIsNotRecord ns → ⊥) → FileHasUnknown ns
      → RefusedFor bytes UnknownName
  -- 23: the declaration of some common type leads back to that type
  type_cycle : (s : ResolvedSchema) → HasDeclarations bytes s → SomeCommonLeadsBack s → RefusedFor bytes TypeCycle
  -- 24: some action is its own ancestor
  action_cycle : (s : ResolvedSchema) → HasDeclarations bytes s → (SomeCommonLeadsBack s → ⊥)
      → SomeActionIsOnCycle s → RefusedFor bytes ActionCycle
  -- 25: some type, expanded, is too large
  too_large : (s : ResolvedSchema) → HasDeclarations bytes s → (SomeCommonLeadsBack s → ⊥)
      → (SomeActionIsOnCycle s → ⊥) → SomeTypeIsTooLarge s → RefusedFor bytes TypeTooLarge
