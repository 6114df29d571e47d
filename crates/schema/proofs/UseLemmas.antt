-- The places of an action are those of its use, and each is of a principal and a resource.
use Rattle.std.proofs.Common.{◌≡◌, ◌∙◌, Some, sym, ap, subst}
use Rattle.std.specs.Prelude.{Contains, ⊤}
use Rattle.std.specs.BTreeMap.{get}
use Rattle.values.specs.declared.entity_uid.EntityUid.{EntityUid}
use Rattle.schema_types.specs.CedarViews.{cedar_view}
use Rattle.schema_types.specs.Expansions.{Declarations}
use Rattle.schema_types.specs.declared.cedar.CedarType.{CedarType}
use Rattle.schema_reading.specs.Qualifying.{ResolvedAppliesTo, ResolvedAction}
use Rattle.schema.specs.declared.parts.EnvironmentKey.{EnvironmentKey}
use Rattle.schema.specs.Schemas.{place_cmp, IsRecordOf}
use Rattle.schema.specs.inner.Filling.{SomeMay, SomeMust, HoldsForEach}
use Rattle.schema.specs.Places.{place_of}
use Rattle.schema.specs.inner.Making.{Places, PlaceMay, PlaceMust, AddsPrincipals, UseMay, UseMust, AddsUse, ActionMay, ActionMust, AddsAction, HasSmallExpansionAt, IsContextWritten}
use Rattle.schema.proofs.FillingLemmas.{adds_as}

some_same : {A : Type 0} (x y : A) → Some x ≡ Some y → x ≡ y
some_same x y e = cc

pub uses_as : (commons : Declarations) (a : ResolvedAction) (u : ResolvedAppliesTo) → a.applies_to ≡ Some u → (old new : Places)
    → AddsUse commons a.uid u old new → AddsAction commons a old new
uses_as commons a u is old new h =
    adds_as (UseMay commons a.uid u) (ActionMay commons a) (UseMust a.uid u) (ActionMust a) (HasSmallExpansionAt commons u.context) (IsContextWritten commons a) (get place_cmp old) (get place_cmp new)
    (λ p c m. (u, is, m))
    (λ p m. subst (λ (v : ResolvedAppliesTo). UseMust a.uid v p) (some_same m.0 u (sym m.1 ∙ is)) m.2)
    (λ told v e. subst (λ (x : ResolvedAppliesTo). HasSmallExpansionAt commons x.context) (some_same u v (sym is ∙ e)) told)
    h

module _ (commons : Declarations) (action : EntityUid) (u : ResolvedAppliesTo) (context : CedarType) (is : IsRecordOf commons u.context (cedar_view context)) where
  may_use : (p : EnvironmentKey) (c : CedarType) → SomeMay (λ q. SomeMay (PlaceMay action context q) u.resources) u.principals p c → UseMay commons action u p c
  may_use p c (q, in_principals, rest) =
      let at = rest.2.0 in (
        (
          ap (λ (x : EnvironmentKey). x.action) at,
          subst (λ (x : EnvironmentKey). Contains u.principals x.principal) at in_principals,
          subst (λ (x : EnvironmentKey). Contains u.resources x.resource) at rest.1,
        ),
        subst (λ (x : CedarType). IsRecordOf commons u.context (cedar_view x)) (sym rest.2.1) is,
      )

  must_use : (p : EnvironmentKey) → UseMust action u p → SomeMust (λ q. SomeMust (PlaceMust action q) u.resources) u.principals p
  must_use p (at, in_principals, in_resources) = (p.principal, in_principals, (p.resource, in_resources, ap (λ (x : EntityUid). place_of x p.principal p.resource) at))

  pub used_as : HasSmallExpansionAt commons u.context → (old new : Places) → AddsPrincipals action context u.resources u.principals old new → AddsUse commons action u old new
  used_as told old new h =
      adds_as (SomeMay (λ q. SomeMay (PlaceMay action context q) u.resources) u.principals) (UseMay commons action u)
      (SomeMust (λ q. SomeMust (PlaceMust action q) u.resources) u.principals) (UseMust action u)
      (HoldsForEach (λ q. HoldsForEach (λ r. ⊤) u.resources) u.principals) (HasSmallExpansionAt commons u.context) (get place_cmp old) (get place_cmp new)
      may_use must_use (λ t. told) h
