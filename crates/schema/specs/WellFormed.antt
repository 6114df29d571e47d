-- Defines the invariants of each schema that bytes describe.
use Rattle.std.specs.Prelude.{◌≡◌, ◌↔◌, ℕ, List, map, Contains, IsTrue, IsSome, Option, Some}
use Rattle.std.specs.List.Sorted.{IsStrictlySortedBy}
use Rattle.values.specs.declared.entity_uid.EntityUid.{EntityUid}
use Rattle.ancestor_search.specs.Hierarchy.{IsAscending}
use Rattle.schema_types.specs.Cedar.{Cedar, CedarFields, record_of, IsTooLarge}
use Rattle.schema_types.specs.Mentions.{NamesEntity}
use Rattle.schema_types.specs.Ascending.{KeysAscend}
use Rattle.schema_types.specs.Actions.{action_type}
use Rattle.schema.specs.Schemas.{EnvironmentOf, StatedSchema, IsSchemaOf, place_cmp}

-- `AreAttributes t` holds if `t` has the form of an entity type's attributes or of a context: a record within the
-- limits on types, whose keys ascend at every depth.
pub record AreAttributes (t : Cedar) : Type 0 where
  pub fields : CedarFields
  pub is_record : t ≡ record_of fields
  pub ascend : KeysAscend t
  pub small : IsTooLarge t → ⊥

-- `IsActionType name` holds if `name` is the type of the actions of a namespace, which may be the empty one: the last
-- word of `name` is `Action`.
abbrev pub IsActionType : List ℕ → Type 0
IsActionType name = (namespace : Option (List ℕ)) × (name ≡ action_type namespace)

-- `IsWellFormed v` holds if the schema `v` satisfies the following invariants.
pub record IsWellFormed (v : StatedSchema) : Type 0 where
  pub shapes : (n : List ℕ) (t : Cedar) → v.shape n ≡ Some t → AreAttributes t
  pub contexts : (e : EnvironmentOf) → Contains v.environments e → AreAttributes e.context
  -- the places of the environments ascend strictly, and their actions are declared
  pub environments_ascend : IsStrictlySortedBy place_cmp (map (λ e. e.place) v.environments)
  pub places : (e : EnvironmentOf) → Contains v.environments e → Contains v.actions e.place.action
  -- `actions` has an action if and only if `ancestors` has a value for the action, and if and only if `member_of` has
  -- one; `actions` ascends
  pub actions : (u : EntityUid) → Contains v.actions u ↔ IsSome (v.ancestors u)
  pub actions_stated : (u : EntityUid) → Contains v.actions u ↔ IsSome (v.member_of u)
  pub actions_ascend : IsAscending v.actions
  -- the ancestors of an action ascend; an ancestor of an ancestor is an ancestor; no action is its own ancestor
  pub ancestors_ascend : (u : EntityUid) (us : List EntityUid) → v.ancestors u ≡ Some us → IsAscending us
  pub ancestors_join : (u w x : EntityUid) (us ws : List EntityUid) → v.ancestors u ≡ Some us → Contains us w
      → v.ancestors w ≡ Some ws → Contains ws x → Contains us x
  pub no_cycle : (u : EntityUid) (us : List EntityUid) → v.ancestors u ≡ Some us → Contains us u → ⊥
  -- each ancestor is a declared action
  pub ancestors_declared : (u w : EntityUid) (us : List EntityUid) → v.ancestors u ≡ Some us → Contains us w
      → Contains v.actions w
  -- actions have action types, and no declared entity type is an action type
  pub actions_typed : (u : EntityUid) → Contains v.actions u → IsActionType u.type_name
  pub shapes_apart : (n : List ℕ) → IsSome (v.shape n) → IsActionType n → ⊥
  -- `may_have_parent` is transitive
  pub parents_join : (child parent above : List ℕ) → IsTrue (v.may_have_parent child parent)
      → IsTrue (v.may_have_parent parent above) → IsTrue (v.may_have_parent child above)
  -- each entity type that is named in a shape, a context, an environment or the hierarchy is declared
  pub shapes_name : (n : List ℕ) (t : Cedar) → v.shape n ≡ Some t → (q : List ℕ) → NamesEntity t q
      → IsSome (v.shape q)
  pub contexts_name : (e : EnvironmentOf) → Contains v.environments e → (q : List ℕ) → NamesEntity e.context q
      → IsSome (v.shape q)
  pub principals : (e : EnvironmentOf) → Contains v.environments e → IsSome (v.shape e.place.principal)
  pub resources : (e : EnvironmentOf) → Contains v.environments e → IsSome (v.shape e.place.resource)
  pub children : (child parent : List ℕ) → IsTrue (v.may_have_parent child parent) → IsSome (v.shape child)
  pub parents : (child parent : List ℕ) → IsTrue (v.may_have_parent child parent) → IsSome (v.shape parent)

-- `StatedSchemasAreWellFormed`: each schema that bytes describe satisfies the invariants.
abbrev pub StatedSchemasAreWellFormed : Type 0
StatedSchemasAreWellFormed = (bytes : List ℕ) (v : StatedSchema) → IsSchemaOf bytes v → IsWellFormed v
