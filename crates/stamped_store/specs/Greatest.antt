-- Defines the store of a list of updates, each a name with an entry: each name has the greatest entry that the updates
-- have for it. Entries may be of any type; in this file `cmp` is their order, and `R` is the order of the names.
use Rattle.std.specs.Prelude.{◌≡◌, ℕ, max, List, [], ◌∷◌, ◌++◌, Option, Some, None, true, if◌then◌else◌}
use Rattle.std.specs.List.{Contains}
use Rattle.std.specs.Ordering.{eq_by_cmp, is_le}
use Rattle.std.specs.FinMap.{FinMap, empty, get, insert, entries}
use Rattle.std.specs.declared.cmp.Ordering.{Ordering}
use Rattle.stamped_store.specs.Joins.{option_below}
use Rattle.stamped_store.specs.EntryOrder.{PlainEntry, greater_of}
use Rattle.stamped_store.specs.JoinMaps.{joined_onto}

-- `max_count es` is the greatest count of the entries `es`, 0 without entries.
abbrev pub max_count : {N : Type 0} → List (N × PlainEntry) → ℕ
max_count [] = 0
max_count (e ∷ es) = max e.1.count (max_count es)

-- `greatest_count s` is the greatest count in the store `s`, 0 if it is empty.
abbrev pub greatest_count : {N : Type 0} {R : N → N → Ordering} → FinMap R PlainEntry → ℕ
greatest_count s = max_count (entries s)

module _ {N V : Type 0} (cmp : V → V → Ordering) where
  -- `IsGreatestAt us q e` holds if `e` is the greatest entry that the updates `us` have for the name `q`, or `None` if
  -- they have none.
  abbrev pub IsGreatestAt : List (N × V) → N → Option V → Type 0
  IsGreatestAt us q None = (e : V) → ¬ (Contains us (q, e))
  IsGreatestAt us q (Some e) = Contains us (q, e) × ((f : V) → Contains us (q, f) → is_le (cmp f e) ≡ true)

  -- `IsStoreOf us s` holds if `s` has, for each name, the greatest entry that the updates `us` have for the name, and
  -- no entry for a name without an update.
  abbrev pub IsStoreOf : {R : N → N → Ordering} → List (N × V) → FinMap R V → Type 0
  IsStoreOf us s = (q : N) → IsGreatestAt us q (get s q)

  -- `IsStoreBelow s t` holds if each name of `s` has an entry in `t` that is at least as great.
  abbrev pub IsStoreBelow : {R : N → N → Ordering} → FinMap R V → FinMap R V → Type 0
  IsStoreBelow s t = (q : N) → option_below (λ a b. is_le (cmp a b)) (get s q) (get t q) ≡ true

module _ {N V : Type 0} (cmp : V → V → Ordering) (R : N → N → Ordering) where
  -- `store_of us` is the store that results from applying the updates `us` one after another, the last of them first.
  abbrev pub store_of : List (N × V) → FinMap R V
  store_of [] = empty
  store_of (u ∷ us) = insert (store_of us) u.0 (joined_onto (greater_of cmp) (get (store_of us) u.0) u.1)

  -- `joined_stores s t` is the join of the stores `s` and `t`: the store of the updates of both.
  abbrev pub joined_stores : FinMap R V → FinMap R V → FinMap R V
  joined_stores s t = store_of (entries s ++ entries t)

  -- `greatest_at us q` is the greatest entry that the updates `us` have for the name `q`, if they have one.
  abbrev pub greatest_at : List (N × V) → N → Option V
  greatest_at [] q = None
  greatest_at (u ∷ us) q = if eq_by_cmp R q u.0 then Some (joined_onto (greater_of cmp) (greatest_at us q) u.1)
      else greatest_at us q
