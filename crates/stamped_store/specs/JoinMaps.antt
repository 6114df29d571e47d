-- Defines a map whose values can be joined. The map is the list of its entries in the order of the keys. In this file
-- `cmp` is the order of the keys, `join v w` the join of two values, and `below v w` tests whether `v` is at most `w`.
use Rattle.std.specs.Prelude.{◌≡◌, ◌≢◌, Bool, true, List, [], ◌∷◌, Option, Some, None, ℕ, string_bytes}
use Rattle.std.specs.BTreeMap.{insert_entry, is_at}
use Rattle.std.specs.Map.{lookup}
use Rattle.std.specs.Ordering.{nat_cmp}
use Rattle.std.specs.Cmp.Lexicographic.{slice_cmp}
use Rattle.std.specs.declared.alloc.Global.{Global}
use Rattle.std.specs.declared.string.String.{String}
use Rattle.std.specs.declared.cmp.Ordering.{Ordering}
use Rattle.std.specs.declared.cmp.Ordering.TheVariants.{Equal}
use Rattle.stamped_store.specs.Joins.{option_below, option_joined}

-- `joined_onto join o v` is `v`, joined onto the value in `o` if there is one.
abbrev pub joined_onto : {V : Type 0} → (V → V → V) → Option V → V → V
joined_onto join None v = v
joined_onto join (Some held) v = join held v

module _ {K V : Type 0} where
  -- `IsBelowAt below f g` holds if at each key the value of the function `f` is at most that of `g`; `None` is least.
  abbrev pub IsBelowAt : (V → V → Bool) → (K → Option V) → (K → Option V) → Type 0
  IsBelowAt below f g = (q : K) → option_below below (f q) (g q) ≡ true

  -- `joined_at join f g q` is the join of the values of `f` and `g` at the key `q`.
  abbrev pub joined_at : (V → V → V) → (K → Option V) → (K → Option V) → K → Option V
  joined_at join f g q = option_joined join (f q) (g q)

  -- `value_at cmp s q` is the value of `s` at the key `q`, if there is one.
  abbrev pub value_at : (K → K → Ordering) → List (K × V) → K → Option V
  value_at cmp s q = lookup (is_at (cmp q)) s

  -- `KeepsOthers cmp k old new` holds if `new` has the value of `old` at each key other than `k`.
  abbrev pub KeepsOthers : (K → K → Ordering) → K → List (K × V) → List (K × V) → Type 0
  KeepsOthers cmp k old new = (q : K) → cmp q k ≢ Equal → value_at cmp new q ≡ value_at cmp old q

  -- `taken cmp join s k v` is the list `s` with `v` joined at the key `k`.
  abbrev pub taken : (K → K → Ordering) → (V → V → V) → List (K × V) → K → V → List (K × V)
  taken cmp join s k v = insert_entry cmp s k (joined_onto join (value_at cmp s k) v)

  -- `all_joined cmp join s es` is the list `s` with the value of each of the pairs `es` joined at its key, in turn.
  abbrev pub all_joined : (K → K → Ordering) → (V → V → V) → List (K × V) → List (K × V) → List (K × V)
  all_joined cmp join s [] = s
  all_joined cmp join s (e ∷ es) = all_joined cmp join (taken cmp join s e.0 e.1) es

  -- `IsBelow cmp below s t` holds if each key of `s` has a value in `t` that is at least as great.
  abbrev pub IsBelow : (K → K → Ordering) → (V → V → Bool) → List (K × V) → List (K × V) → Type 0
  IsBelow cmp below s t = IsBelowAt below (value_at cmp s) (value_at cmp t)

  -- `IsJoined cmp join s t n` holds if the value of `n` at each key is the join of those of `s` and `t`.
  abbrev pub IsJoined : (K → K → Ordering) → (V → V → V) → List (K × V) → List (K × V) → List (K × V) → Type 0
  IsJoined cmp join s t n = (q : K) → value_at cmp n q ≡ joined_at join (value_at cmp s) (value_at cmp t) q

-- `value_at_text s bytes` is the value of `s` at the key with the bytes `bytes`, if there is one.
abbrev pub value_at_text : {V : Type 0} → List (String Global × V) → List ℕ → Option V
value_at_text s bytes = lookup (is_at (λ k. slice_cmp nat_cmp bytes (string_bytes k))) s
