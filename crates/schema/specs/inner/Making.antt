-- Defines how the code builds the parts of a schema, one after another. Each relation `Adds..` holds if the map `new`
-- is the map `old` with the further entries that the relation's comment states. `..May` holds of the entries that may
-- be added, `..Must` of the keys that must be there afterwards (Filling). `commons` are the declared common types.
use Rattle.std.specs.Prelude.{◌≡◌, ⊤, ℕ, List, Contains, Option, Some, None, option_map}
use Rattle.std.specs.BTreeMap.{BTreeMap, get}
use Rattle.values.specs.declared.entity_uid.EntityUid.{EntityUid}
use Rattle.values.specs.Names.{uid_cmp, text_cmp}
use Rattle.ancestor_search.specs.Hierarchy.{Parents}
use Rattle.schema_types.specs.Qualified.{Qualified}
use Rattle.schema_types.specs.Cedar.{Cedar}
use Rattle.schema_types.specs.CedarViews.{cedar_view}
use Rattle.schema_types.specs.Expansions.{Declarations}
use Rattle.schema_types.specs.Mentions.{IsClosed}
use Rattle.schema_types.specs.Outcome.{TypeRefused}
use Rattle.schema_types.specs.declared.fault.SchemaFault.{SchemaFault}
use Rattle.schema_types.specs.declared.cedar.CedarType.{CedarType}
use Rattle.schema_reading.specs.Qualifying.{ResolvedEntityType, ResolvedAppliesTo, ResolvedAction}
use Rattle.schema.specs.declared.parts.EnvironmentKey.{EnvironmentKey}
use Rattle.schema.specs.declared.parts.EntityDecl.{EntityDecl}
use Rattle.schema.specs.Places.{place_cmp, place_of}
use Rattle.schema.specs.Schemas.{IsRecordOf, HasSmallExpansion}
use Rattle.schema.specs.inner.Filling.{AddsEntries, AddsEach, SomeMay, SomeMust, HoldsForEach}

-- ---- expanded types

-- `IsClosedAt commons o` holds if each common type that the type in `o` names is declared in `commons`.
abbrev pub IsClosedAt : Declarations → Option Qualified → Type 0
IsClosedAt commons o = (r : Qualified) → o ≡ Some r → IsClosed commons r

-- `HasSmallExpansionAt commons o` holds if the type in `o` has an expansion within the limits, or `o` is `None`;
-- `commons` are the declared common types.
abbrev pub HasSmallExpansionAt : Declarations → Option Qualified → Type 0
HasSmallExpansionAt commons o = (r : Qualified) → o ≡ Some r → HasSmallExpansion commons r

-- `IsRefusedAt commons o f` holds if `f` is the error of expanding the type in `o` by `commons`.
abbrev pub IsRefusedAt : Declarations → Option Qualified → SchemaFault → Type 0
IsRefusedAt commons o f = (r : Qualified) × (o ≡ Some r) × TypeRefused commons r f

-- `IsMade commons o t` holds if `t` is the expansion of the type in `o` by `commons`, within the limits, or the record
-- without attributes if `o` is `None`.
pub record IsMade (commons : Declarations) (o : Option Qualified) (t : Cedar) : Type 0 where
  pub is_record : IsRecordOf commons o t
  pub is_written : HasSmallExpansionAt commons o

-- ---- look-ups

-- `shape_in shapes n` is the shape of the entity type `n`, if `shapes` has an entry for it.
abbrev pub shape_in : BTreeMap (List ℕ) EntityDecl → List ℕ → Option Cedar
shape_in shapes n = option_map (λ d. cedar_view d.shape) (get text_cmp shapes n)

-- ---- shapes

-- `ShapeMay commons e n d` holds if `n` is the name of the entity type `e`, and `d` has the shape of `e`, expanded by
-- `commons`.
abbrev pub ShapeMay : Declarations → ResolvedEntityType → List ℕ → EntityDecl → Type 0
ShapeMay commons e n d = (e.name ≡ n) × IsRecordOf commons e.shape (cedar_view d.shape)

-- `ShapeMust e n` holds if `n` is the name of the entity type `e`.
abbrev pub ShapeMust : ResolvedEntityType → List ℕ → Type 0
ShapeMust e n = e.name ≡ n

-- `AddsShape commons e old new` holds if `new` is `old` with the shape of the entity type `e` added, expanded by
-- `commons` within the limits.
abbrev pub AddsShape : Declarations → ResolvedEntityType → BTreeMap (List ℕ) EntityDecl → BTreeMap (List ℕ) EntityDecl
    → Type 0
AddsShape commons e old new =
    AddsEntries (ShapeMay commons e) (ShapeMust e) (HasSmallExpansionAt commons e.shape) (get text_cmp old)
    (get text_cmp new)

-- `AddsShapes commons es old new` holds if `new` is `old` with the shapes of the entity types `es` added, expanded by
-- `commons` within the limits.
abbrev pub AddsShapes : Declarations → List ResolvedEntityType → BTreeMap (List ℕ) EntityDecl
    → BTreeMap (List ℕ) EntityDecl → Type 0
AddsShapes commons es old new =
    AddsEach (ShapeMay commons) ShapeMust (λ e. HasSmallExpansionAt commons e.shape) es (get text_cmp old)
    (get text_cmp new)

-- `AreShapesClosed commons es` holds if each common type that a shape of the entity types `es` names is declared in
-- `commons`.
abbrev pub AreShapesClosed : Declarations → List ResolvedEntityType → Type 0
AreShapesClosed commons es = (e : ResolvedEntityType) → Contains es e → IsClosedAt commons e.shape

-- `SomeShapeIsRefused commons es f` holds if `f` is the error of expanding the shape of one of the entity types `es` by
-- `commons`.
abbrev pub SomeShapeIsRefused : Declarations → List ResolvedEntityType → SchemaFault → Type 0
SomeShapeIsRefused commons es f = (e : ResolvedEntityType) × Contains es e × IsRefusedAt commons e.shape f

-- `AreShapes commons es shapes` holds if `shapes` has exactly the shapes of the entity types `es`, expanded by
-- `commons` within the limits.
abbrev pub AreShapes : Declarations → List ResolvedEntityType → BTreeMap (List ℕ) EntityDecl → Type 0
AreShapes commons es shapes =
    AddsEach (ShapeMay commons) ShapeMust (λ e. HasSmallExpansionAt commons e.shape) es (λ n. None)
    (get text_cmp shapes)

-- ---- environments

-- `Places` are maps from a place to the type of its context.
abbrev pub Places : Type 0
Places = BTreeMap EnvironmentKey CedarType

-- `PlaceMay action context principal resource p c` holds if `p` is the place of `action`, `principal` and `resource`,
-- and `c` is `context`.
abbrev pub PlaceMay : EntityUid → CedarType → List ℕ → List ℕ → EnvironmentKey → CedarType → Type 0
PlaceMay action context principal resource p c = (place_of action principal resource ≡ p) × (c ≡ context)

-- `PlaceMust action principal resource p` holds if `p` is the place of `action`, `principal` and `resource`.
abbrev pub PlaceMust : EntityUid → List ℕ → List ℕ → EnvironmentKey → Type 0
PlaceMust action principal resource p = place_of action principal resource ≡ p

-- `AddsPlace action context principal resource old new` holds if `new` is `old` with the place of `action`, `principal`
-- and `resource` added, and with the context type `context` at it.
abbrev pub AddsPlace : EntityUid → CedarType → List ℕ → List ℕ → Places → Places → Type 0
AddsPlace action context principal resource old new =
    AddsEntries (PlaceMay action context principal resource) (PlaceMust action principal resource) ⊤
    (get place_cmp old) (get place_cmp new)

-- `AddsResources action context resources principal old new` holds if `new` is `old` with the places of `action`,
-- `principal` and each of the types `resources` added, and with the context type `context` at each.
abbrev pub AddsResources : EntityUid → CedarType → List (List ℕ) → List ℕ → Places → Places → Type 0
AddsResources action context resources principal old new =
    AddsEach (PlaceMay action context principal) (PlaceMust action principal) (λ r. ⊤) resources
    (get place_cmp old) (get place_cmp new)

-- `AddsPrincipals action context resources principals old new` holds if `new` is `old` with the places of `action`,
-- each of the types `principals` and each of the types `resources` added, and with the context type `context` at each.
abbrev pub AddsPrincipals : EntityUid → CedarType → List (List ℕ) → List (List ℕ) → Places → Places → Type 0
AddsPrincipals action context resources principals old new =
    AddsEach (λ p. SomeMay (PlaceMay action context p) resources) (λ p. SomeMust (PlaceMust action p) resources)
    (λ p. HoldsForEach (λ r. ⊤) resources) principals (get place_cmp old) (get place_cmp new)

-- `UseMust action u p` holds if `p` is a place of `action` with types that `u`, the `appliesTo` of the action, lists.
abbrev pub UseMust : EntityUid → ResolvedAppliesTo → EnvironmentKey → Type 0
UseMust action u p = (action ≡ p.action) × Contains u.principals p.principal × Contains u.resources p.resource

-- `UseMay commons action u p c` holds if `UseMust action u p` holds, and `c` is the context of `u`, expanded by
-- `commons`.
abbrev pub UseMay : Declarations → EntityUid → ResolvedAppliesTo → EnvironmentKey → CedarType → Type 0
UseMay commons action u p c = UseMust action u p × IsRecordOf commons u.context (cedar_view c)

-- `AddsUse commons action u old new` holds if `new` is `old` with further places: those of `action` with types that `u`
-- lists, and at each the context of `u`, expanded by `commons` within the limits.
abbrev pub AddsUse : Declarations → EntityUid → ResolvedAppliesTo → Places → Places → Type 0
AddsUse commons action u old new =
    AddsEntries (UseMay commons action u) (UseMust action u) (HasSmallExpansionAt commons u.context)
    (get place_cmp old) (get place_cmp new)

-- `ActionMust a p` holds if `p` is a place of the action `a`.
abbrev pub ActionMust : ResolvedAction → EnvironmentKey → Type 0
ActionMust a p = (u : ResolvedAppliesTo) × (a.applies_to ≡ Some u) × UseMust a.uid u p

-- `ActionMay commons a p c` holds if `p` is a place of the action `a`, and `c` is the action's context, expanded by
-- `commons`.
abbrev pub ActionMay : Declarations → ResolvedAction → EnvironmentKey → CedarType → Type 0
ActionMay commons a p c = (u : ResolvedAppliesTo) × (a.applies_to ≡ Some u) × UseMay commons a.uid u p c

-- `IsContextWritten commons a` holds if the context of the action `a`, if it has one, has an expansion by `commons`
-- within the limits.
abbrev pub IsContextWritten : Declarations → ResolvedAction → Type 0
IsContextWritten commons a = (u : ResolvedAppliesTo) → a.applies_to ≡ Some u → HasSmallExpansionAt commons u.context

-- `IsContextClosed commons a` holds if each common type that the context of `a` names is declared in `commons`.
abbrev pub IsContextClosed : Declarations → ResolvedAction → Type 0
IsContextClosed commons a = (u : ResolvedAppliesTo) → a.applies_to ≡ Some u → IsClosedAt commons u.context

-- `IsContextRefused commons a f` holds if `f` is the error of expanding the context of the action `a` by `commons`.
abbrev pub IsContextRefused : Declarations → ResolvedAction → SchemaFault → Type 0
IsContextRefused commons a f = (u : ResolvedAppliesTo) × (a.applies_to ≡ Some u) × IsRefusedAt commons u.context f

-- `AddsAction commons a old new` holds if `new` is `old` with the places of the action `a` added, and at each the
-- context of `a`, expanded by `commons` within the limits.
abbrev pub AddsAction : Declarations → ResolvedAction → Places → Places → Type 0
AddsAction commons a old new =
    AddsEntries (ActionMay commons a) (ActionMust a) (IsContextWritten commons a) (get place_cmp old)
    (get place_cmp new)

-- `AddsActions commons us old new` holds if `new` is `old` with the places of the actions `us` added, and at each the
-- action's context, expanded by `commons` within the limits.
abbrev pub AddsActions : Declarations → List ResolvedAction → Places → Places → Type 0
AddsActions commons us old new =
    AddsEach (ActionMay commons) ActionMust (IsContextWritten commons) us (get place_cmp old) (get place_cmp new)

-- `AreContextsClosed commons us` holds if each common type that a context of the actions `us` names is declared in
-- `commons`.
abbrev pub AreContextsClosed : Declarations → List ResolvedAction → Type 0
AreContextsClosed commons us = (a : ResolvedAction) → Contains us a → IsContextClosed commons a

-- `SomeContextIsRefused commons us f` holds if `f` is the error of expanding the context of one of the actions `us` by
-- `commons`.
abbrev pub SomeContextIsRefused : Declarations → List ResolvedAction → SchemaFault → Type 0
SomeContextIsRefused commons us f = (a : ResolvedAction) × Contains us a × IsContextRefused commons a f

-- `ArePlaces commons us places` holds if `places` has exactly the places of the actions `us`, with their contexts,
-- expanded by `commons` within the limits.
abbrev pub ArePlaces : Declarations → List ResolvedAction → Places → Type 0
ArePlaces commons us places =
    AddsEach (ActionMay commons) ActionMust (IsContextWritten commons) us (λ p. None) (get place_cmp places)

-- ---- hierarchies

-- `MemberMay parents a u us` holds if `u` is the uid of `a`, and `us` are the parents of `u` under `parents`.
abbrev pub MemberMay : Parents → ResolvedAction → EntityUid → List EntityUid → Type 0
MemberMay parents a u us = (a.uid ≡ u) × (us ≡ parents u)

-- `MemberMust a u` holds if `u` is the uid of `a`.
abbrev pub MemberMust : ResolvedAction → EntityUid → Type 0
MemberMust a u = a.uid ≡ u

-- `AddsMember parents a old new` holds if `new` is `old` with the parents of the action `a` under `parents` added.
abbrev pub AddsMember : Parents → ResolvedAction → BTreeMap EntityUid (List EntityUid)
    → BTreeMap EntityUid (List EntityUid) → Type 0
AddsMember parents a old new =
    AddsEntries (MemberMay parents a) (MemberMust a) ⊤ (get uid_cmp old) (get uid_cmp new)

-- `AddsMembers parents us old new` holds if `new` is `old` with the parents of the actions `us` under `parents` added.
abbrev pub AddsMembers : Parents → List ResolvedAction → BTreeMap EntityUid (List EntityUid)
    → BTreeMap EntityUid (List EntityUid) → Type 0
AddsMembers parents us old new =
    AddsEach (MemberMay parents) MemberMust (λ a. ⊤) us (get uid_cmp old) (get uid_cmp new)

-- `AreMembers parents us members` holds if `members` has exactly the parents of the actions `us` under `parents`.
abbrev pub AreMembers : Parents → List ResolvedAction → BTreeMap EntityUid (List EntityUid) → Type 0
AreMembers parents us members =
    AddsEach (MemberMay parents) MemberMust (λ a. ⊤) us (λ u. None) (get uid_cmp members)
