-- Defines how a map is filled, entry by entry.
use Rattle.std.specs.Prelude.{◌≡◌, ◌⊎◌, List, Contains, Option, Some, IsSome}

-- `AddsEntries May Must Also old new` holds if the map `new` is `old` with further entries: each entry of `new`
-- satisfies `May` or is in `old`; each key that satisfies `Must` or is in `old` is in `new`; and the further condition
-- `Also` holds.
pub record AddsEntries {K V : Type 0} (May : K → V → Type 0) (Must : K → Type 0) (Also : Type 0)
    (old new : K → Option V)
    : Type 0 where
  pub sound : (k : K) (v : V) → new k ≡ Some v → May k v ⊎ (old k ≡ Some v)
  pub all : (k : K) → Must k → IsSome (new k)
  pub kept : (k : K) → IsSome (old k) → IsSome (new k)
  pub also : Also

-- `SomeMay may xs k v` holds if `may x k v` holds for some `x` of `xs`.
abbrev pub SomeMay : {X K V : Type 0} → (X → K → V → Type 0) → List X → K → V → Type 0
SomeMay {X = X} may xs k v = (x : X) × Contains xs x × may x k v

-- `SomeMust must xs k` holds if `must x k` holds for some `x` of `xs`.
abbrev pub SomeMust : {X K : Type 0} → (X → K → Type 0) → List X → K → Type 0
SomeMust {X = X} must xs k = (x : X) × Contains xs x × must x k

-- `HoldsForEach P xs` holds if `P x` holds for each `x` of `xs`.
abbrev pub HoldsForEach : {X : Type 0} → (X → Type 0) → List X → Type 0
HoldsForEach {X = X} P xs = (x : X) → Contains xs x → P x

-- `AddsEach may must also xs old new` holds if `new` is `old` with further entries (`AddsEntries`) for all items of
-- `xs`, where `may`, `must` and `also` give the three conditions of each item.
abbrev pub AddsEach : {X K V : Type 0} → (X → K → V → Type 0) → (X → K → Type 0) → (X → Type 0) → List X
    → (K → Option V) → (K → Option V) → Type 0
AddsEach may must also xs old new = AddsEntries (SomeMay may xs) (SomeMust must xs) (HoldsForEach also xs) old new
