-- Defines entities by number: an entity's number is its index in a list of entities.
use Rattle.std.specs.Prelude.{◌≡◌, ℕ, ◌<◌, Bool, false, IsTrue, List, length, Contains, ◌↔◌, slice_index_or, Vec}
use Rattle.std.specs.declared.alloc.Global.{Global}
use Rattle.values.specs.declared.entity_uid.EntityUid.{EntityUid}
use Rattle.ancestor_search.specs.Hierarchy.{Parents}
use Rattle.ancestor_search.specs.inner.Walking.{edges_of}

-- `IsNumber us i x` holds if `us` has the entity `x` at index `i`.
abbrev pub IsNumber : List EntityUid → ℕ → EntityUid → Type 0
IsNumber us i x = (i < length us) × (slice_index_or us i x ≡ x)

-- `NumbersAmong us ps ns` holds if `ns` are the numbers of the entities of `ps` that are in the list `us`.
abbrev pub NumbersAmong : List EntityUid → List EntityUid → List ℕ → Type 0
NumbersAmong us ps ns = (j : ℕ) → Contains ns j ↔ ((x : EntityUid) × Contains ps x × IsNumber us j x)

-- `AreNumbered p us k es` holds if `es` lists, at the index of each of the first `k` entities of `us`, the numbers of
-- that entity's parents under `p`, as far as they are in `us`.
abbrev pub AreNumbered : Parents → List EntityUid → ℕ → List (Vec ℕ Global) → Type 0
AreNumbered p us k es = (i : ℕ) (x : EntityUid) → i < k → IsNumber us i x → NumbersAmong us (p x) (edges_of es i)

-- `HasNoNumber us x` holds if `x` is not in `us`, and so has no number.
abbrev pub HasNoNumber : List EntityUid → EntityUid → Type 0
HasNoNumber us x = Contains us x → ⊥

-- `MarkedBefore us marks k found` holds if `found` are those of the first `k` entities of `us` whose numbers are marked
-- in `marks`.
abbrev pub MarkedBefore : List EntityUid → List Bool → ℕ → List EntityUid → Type 0
MarkedBefore us marks k found = (x : EntityUid) →
    Contains found x ↔ ((i : ℕ) × (i < k) × IsNumber us i x × IsTrue (slice_index_or marks i false))
