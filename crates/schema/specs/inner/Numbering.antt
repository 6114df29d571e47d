-- Defines how the code computes the ancestors of each entity, as sets of numbers.
use Rattle.std.specs.Prelude.{◌≡◌, ◌↔◌, ⊤, ℕ, List, [], ◌∷◌, ◌++◌, map, Contains, IsTrue, IsSome, Option, Some, None}
use Rattle.std.specs.List.{slice_get}
use Rattle.std.specs.BTreeMap.{BTreeMap, get}
use Rattle.schema.specs.declared.spans.NumberSpan.{NumberSpan}
use Rattle.schema.specs.Spans.{has_number}
use Rattle.values.specs.declared.entity_uid.EntityUid.{EntityUid}
use Rattle.values.specs.Names.{uid_cmp, text_cmp}
use Rattle.ancestor_search.specs.Hierarchy.{Parents, IsAncestor, referenced}
use Rattle.schema_reading.specs.Qualifying.{ResolvedEntityType}
use Rattle.schema.specs.LookUps.{has_number_at}
use Rattle.schema.specs.declared.numbering.Numbered.{Numbered}
use Rattle.schema.specs.declared.type_numbers.TypeNumbers.{TypeNumbers}
use Rattle.schema.specs.Schemas.{type_uid}
use Rattle.schema.specs.inner.Filling.{AddsEntries, AddsEach}

-- ---- numbers

-- `Numbers` is the type of numberings: each maps an entity to its number, if it has one.
abbrev pub Numbers : Type 0
Numbers = EntityUid → Option ℕ

-- `IsApart at` holds if no two entities have the same number in `at`. In this file `at` is a numbering, and `parents` a
-- hierarchy.
abbrev pub IsApart : Numbers → Type 0
IsApart at = (u v : EntityUid) (i : ℕ) → at u ≡ Some i → at v ≡ Some i → u ≡ v

-- `IsNumbering at us` holds if each entity that has a number in `at` is in the list `us` at that index.
abbrev pub IsNumbering : Numbers → List EntityUid → Type 0
IsNumbering at us = (u : EntityUid) (i : ℕ) → at u ≡ Some i → slice_get us i ≡ Some u

-- `IsNumbered n` holds if each entity that has a number in `n` is in the list of `n` at that index.
abbrev pub IsNumbered : Numbered → Type 0
IsNumbered n = IsNumbering (get uid_cmp n.numbers) (referenced n.listed.items)

-- `NumbersAll us at` holds if each of the entities `us` has a number in `at`.
abbrev pub NumbersAll : List EntityUid → Numbers → Type 0
NumbersAll us at = (u : EntityUid) → Contains us u → IsSome (at u)

-- `AddsNumber u old new` holds if `u`, and each entity that has a number in `old`, has one in `new`, and `IsNumbered`
-- holds of `new` if it holds of `old`.
pub record AddsNumber (u : EntityUid) (old new : Numbered) : Type 0 where
  pub keeps : IsNumbered old → IsNumbered new
  pub kept : (q : EntityUid) → IsSome (get uid_cmp old.numbers q) → IsSome (get uid_cmp new.numbers q)
  pub there : IsSome (get uid_cmp new.numbers u)

-- ---- ancestors

-- `HasAncestors parents at u spans` holds if `spans` contain, of the numbers that `at` has, exactly those of the
-- ancestors of `u` in `parents`.
abbrev pub HasAncestors : Parents → Numbers → EntityUid → List NumberSpan → Type 0
HasAncestors parents at u spans =
    (q : EntityUid) (i : ℕ) → at q ≡ Some i → IsTrue (has_number spans i) ↔ IsAncestor parents q u

-- `KeepsAncestors parents at reached` holds if `HasAncestors` holds of each entity that has a number in `at`, with the
-- spans that `reached` has at this number, if it has any.
abbrev pub KeepsAncestors : Parents → Numbers → List (List NumberSpan) → Type 0
KeepsAncestors parents at reached =
    (u : EntityUid) (i : ℕ) (spans : List NumberSpan) → at u ≡ Some i → slice_get reached i ≡ Some spans
    → HasAncestors parents at u spans

-- `single i` is the span of the number `i` alone.
abbrev pub single : ℕ → NumberSpan
single i = record { first = i; last = i }

-- `HasSpans reached number old new` holds if `new` is `old`, followed by the span of `number` and the spans that
-- `reached` has at `number`.
pub record HasSpans (reached : List (List NumberSpan)) (number : ℕ) (old new : List NumberSpan) : Type 0 where
  pub further : List NumberSpan
  pub reaches : slice_get reached number ≡ Some further
  pub are : new ≡ old ++ single number ∷ further

-- `AddsParent at reached p old new` holds if `new` is `old`, followed by the span of the number of the parent `p` and
-- the spans at that number in `reached`.
pub record AddsParent (at : Numbers) (reached : List (List NumberSpan)) (p : EntityUid) (old new : List NumberSpan)
    : Type 0 where
  pub number : ℕ
  pub named : at p ≡ Some number
  pub has : HasSpans reached number old new

-- `AddsParents at reached ps old new` holds if `AddsParent at reached` leads from `old` to `new`, once for each of the
-- parents `ps`, in order.
abbrev pub AddsParents : Numbers → List (List NumberSpan) → List EntityUid → List NumberSpan → List NumberSpan
    → Type 0
AddsParents at reached [] old new = new ≡ old
AddsParents at reached (p ∷ ps) old new =
    (mid : List NumberSpan) × AddsParent at reached p old mid × AddsParents at reached ps mid new

-- `single_of o` is the list of the span of the number `o`; `[]` if `o` is `None`.
abbrev pub single_of : Option ℕ → List NumberSpan
single_of None = []
single_of (Some i) = single i ∷ []

-- `singles at us` are the spans of the numbers of the entities `us` in `at`, one for each that has a number.
abbrev pub singles : Numbers → List EntityUid → List NumberSpan
singles at [] = []
singles at (u ∷ us) = single_of (at u) ++ singles at us

-- `AreAncestors parents at spans` holds if the spans that `spans` has at the number of each entity in `at` contain, of
-- the numbers that `at` has, exactly those of the entity's ancestors in `parents`.
abbrev pub AreAncestors : Parents → Numbers → List (List NumberSpan) → Type 0
AreAncestors parents at spans =
    (u q : EntityUid) (i j : ℕ) → at u ≡ Some i → at q ≡ Some j
    → IsTrue (has_number_at (slice_get spans i) j) ↔ IsAncestor parents q u

-- ---- entity types

-- `NameMay at u n i` holds if `n` is the type of the entity `u`, and `i` is the number of `u` in `at`.
abbrev pub NameMay : Numbers → EntityUid → List ℕ → ℕ → Type 0
NameMay at u n i = (u.type_name ≡ n) × (at u ≡ Some i)

-- `NameMust at u n` holds if `n` is the type of the entity `u`, which has a number in `at`.
abbrev pub NameMust : Numbers → EntityUid → List ℕ → Type 0
NameMust at u n = (u.type_name ≡ n) × IsSome (at u)

-- `AddsName at u old new` holds if `new` is the map `old` with the number of `u` in `at`, if `u` has one, under the
-- type of `u`.
abbrev pub AddsName : Numbers → EntityUid → BTreeMap (List ℕ) ℕ → BTreeMap (List ℕ) ℕ → Type 0
AddsName at u old new = AddsEntries (NameMay at u) (NameMust at u) ⊤ (get text_cmp old) (get text_cmp new)

-- `AddsNames at us old new` holds if `new` is the map `old` with the numbers of the entities `us` in `at`, under their
-- types.
abbrev pub AddsNames : Numbers → List EntityUid → (List ℕ → Option ℕ) → (List ℕ → Option ℕ) → Type 0
AddsNames at us old new = AddsEach (NameMay at) (NameMust at) (λ u. ⊤) us old new

-- `AreNames at us named` holds if `named` has exactly the numbers of the entities `us` in `at`, under their types.
abbrev pub AreNames : Numbers → List EntityUid → BTreeMap (List ℕ) ℕ → Type 0
AreNames at us named = AddsNames at us (λ n. None) (get text_cmp named)

-- `type_points es` are the uids that represent the entity types `es`.
abbrev pub type_points : List ResolvedEntityType → List EntityUid
type_points es = map (λ e. type_uid e.name) es

-- `AreNumbers parents es t` holds if `t` has a number for each of the types `es`, and the spans at the number of each
-- type contain, of the numbers that `t` has, exactly those of the type's ancestors in `parents`.
pub record AreNumbers (parents : Parents) (es : List ResolvedEntityType) (t : TypeNumbers) : Type 0 where
  pub exact : (n q : List ℕ) (i j : ℕ) → get text_cmp t.numbers n ≡ Some i → get text_cmp t.numbers q ≡ Some j
      → IsTrue (has_number_at (slice_get t.spans i) j) ↔ IsAncestor parents (type_uid q) (type_uid n)
  pub all : (e : ResolvedEntityType) → Contains es e → IsSome (get text_cmp t.numbers e.name)
