-- The entries of a store after updates are joined into it.
use Rattle.std.specs.Prelude.{◌≡◌, ◌≤◌, ◌⊎◌, ◌&&◌, ◌∷◌, ◌++◌, [], ℕ, zero, suc, List, set, slice_get, Bool, true, false}
use Rattle.std.specs.Prelude.{T, cond}
use Rattle.std.specs.Prelude.{Option, Some, None, Contains, refl}
use Rattle.std.proofs.Common.{ap, ◌∙◌, subst, arith, inl, inr}
use Rattle.std.specs.Cmp.{tied_itself}
use Rattle.std.specs.FinMap.{get, get-entries, entries_sorted}
use Rattle.std.specs.FinMap.Entries.{find, is_sorted, below_all}
use Rattle.std.specs.Ordering.{is_eq, is_lt, ordering_reverse}
use Rattle.std.specs.declared.cmp.Ordering.{Ordering}
use Rattle.std.specs.declared.cmp.Ordering.TheVariants.{Less, Equal, Greater}
use Rattle.std.proofs.lemmas.List.Elements.{Contains-append_cases}
use Rattle.site_store.proofs.of_stamped_store.GreatestsBy.{by_place}
use Rattle.values.specs.declared.name.Name.{Name}
use Rattle.values.specs.Names.{name_cmp, name_cmp-IsTotalOrder}
use Rattle.site_store.specs.stamped_store.EntryOrder.{PlainEntry, entry_cmp, greater_entry}
use Rattle.site_store.specs.stamped_store.Greatest.{IsGreatestAt, greatest_count}
use Rattle.site_store.specs.stamped_store.Joins.{option_below}
use Rattle.site_store.specs.stamped_store.Store.{Store, Update, updates, store_of, IsStoreOf, plain_below, IsStoreBelow}
use Rattle.site_store.specs.stamped_store.Store.{issue, issued}
use Rattle.site_store.proofs.of_stamped_store.Greatests.{greater_entry_is_join, count_le}
use Rattle.site_store.proofs.of_stamped_store.Lifted.{itself, chains}

-- the store has this entry at this name
abbrev pub Has : Store → Update → Type 0
Has s u = get s u.0 ≡ Some u.1

-- ---- what is found in a store is one of its updates, and each of these is found
not_equal : (r : Ordering) → T (is_lt r) → is_eq (ordering_reverse r) ≡ false
not_equal Less h = refl
not_equal Equal h = absurd h
not_equal Greater h = absurd h

left_of : (a b : Bool) → T (a && b) → T a
left_of true b h = tt
left_of false b h = h

right_of : (a b : Bool) → T (a && b) → T b
right_of true b h = h
right_of false b h = absurd h

no_member : (u : Update) → Contains [] u → ⊥
no_member u h = omega (arith, h.1)

below_member : (q : Name) (us : List Update) (u : Update) → T (below_all name_cmp q us) → Contains us u
    → T (is_lt (name_cmp q u.0))
below_member q [] u h m = absurd (no_member u m)
below_member q (v ∷ us) u h m = by_place v us u m
    (λ same. subst (λ (x : Update). T (is_lt (name_cmp q x.0))) same (left_of (is_lt (name_cmp q v.0)) (below_all name_cmp q us) h))
    (λ later. below_member q us u (right_of (is_lt (name_cmp q v.0)) (below_all name_cmp q us) h) later)

found_member : (us : List Update) (u : Update) → T (is_sorted name_cmp us) → Contains us u
    → find name_cmp u.0 us ≡ Some u.1
found_member [] u h m = absurd (no_member u m)
found_member (v ∷ us) u h m = by_place v us u m
    (λ same. subst (λ (x : Update). find name_cmp x.0 (v ∷ us) ≡ Some x.1) same
    (ap (λ b. cond b (Some v.1) (find name_cmp v.0 us)) (ap is_eq (tied_itself name_cmp-IsTotalOrder v.0))))
    (λ later.
    let below = below_member v.0 us u (left_of (below_all name_cmp v.0 us) (is_sorted name_cmp us) h) later in
    ap (λ b. cond b (Some v.1) (find name_cmp u.0 us))
    (ap is_eq (name_cmp-IsTotalOrder.antisymm u.0 v.0) ∙ not_equal (name_cmp v.0 u.0) below)
    ∙ found_member us u (right_of (below_all name_cmp v.0 us) (is_sorted name_cmp us) h) later)

pub has_update : (s : Store) (u : Update) → Contains (updates s) u → Has s u
has_update s u m = get-entries s u.0 ∙ found_member (updates s) u (entries_sorted s) m

-- ---- by the laws of stores
pub record StoreLaws : Type 0 where
  pub greatest : (us : List Update) → IsStoreOf us (store_of us)
  pub own : (s : Store) → store_of (updates s) ≡ s
  pub left : (us vs : List Update) → IsStoreBelow (store_of us) (store_of (us ++ vs))
  pub counted : (s : Store) (u : Update) → Contains (updates s) u → u.1.count ≤ greatest_count s
  pub stays : (s : Store) (name : Name) (site : List ℕ) (body : Option (List ℕ))
      → get (store_of (updates s ++ (name, issued (issue s site) body) ∷ [])) name ≡ Some (issued (issue s site) body)

module _ (law : StoreLaws) where
  -- an entry of the store of updates is one of them
  pub has_one : (us : List Update) (u : Update) → Has (store_of us) u → Contains us u
  has_one us u h = (subst (λ (a : Option PlainEntry). IsGreatestAt entry_cmp us u.0 a) h (law.greatest us u.0)).0

  -- an entry of the new store was there before, or is one of the joined updates
  pub has_more : (s : Store) (us : List Update) (u : Update) → Has (store_of (updates s ++ us)) u → Has s u ⊎ Contains us u
  has_more s us u h = elim (Contains-append_cases (updates s) us u (has_one (updates s ++ us) u h)) [
    | inl there ↦ inl (has_update s u there)
    | inr new ↦ inr new
  ]

  pub update_of : (s : Store) (u : Update) → Has s u → Contains (updates s) u
  update_of s u h = has_one (updates s) u (ap (λ (m : Store). get m u.0) (law.own s) ∙ h)

  -- stores grow
  pub grows : (s : Store) (us : List Update) → IsStoreBelow s (store_of (updates s ++ us))
  grows s us = subst (λ (m : Store). IsStoreBelow m (store_of (updates s ++ us))) (law.own s) (law.left (updates s) us)

  -- a count that is below an entry of a store is at most the store's greatest
  pub count_bound : (s : Store) (q : Name) (e : PlainEntry) (a : Option PlainEntry) → get s q ≡ a
      → option_below plain_below (Some e) a ≡ true → e.count ≤ greatest_count s
  count_bound s q e None h k = absurd cc
  count_bound s q e (Some f) h k =
      let a = count_le e f k in
      let b = law.counted s (q, f) (update_of s (q, f) h) in
      omega arith

pub below_itself : (a : Option PlainEntry) → option_below plain_below a a ≡ true
below_itself a = itself plain_below greater_entry greater_entry_is_join a

pub below_trans : (a b c : Option PlainEntry) → option_below plain_below a b ≡ true → option_below plain_below b c ≡ true → option_below plain_below a c ≡ true
below_trans a b c h k = chains plain_below greater_entry greater_entry_is_join a b c h k

-- ---- lists by number
pub get_set : {X : Type 0} (xs : List X) (k : ℕ) (x y : X) → slice_get xs k ≡ Some y → slice_get (set xs k x) k ≡ Some x
get_set [] k x y h = absurd cc
get_set (z ∷ xs) zero x y h = refl
get_set (z ∷ xs) (suc k) x y h = get_set xs k x y h

-- an item after a write is what was written, or was at that index before
pub set_cases : {X : Type 0} (xs : List X) (k j : ℕ) (x y : X) → slice_get (set xs k x) j ≡ Some y → ((j ≡ k) × (x ≡ y)) ⊎ (slice_get xs j ≡ Some y)
set_cases [] k j x y h = inr h
set_cases (z ∷ xs) zero zero x y h = inl (refl, cc)
set_cases (z ∷ xs) zero (suc j) x y h = inr h
set_cases (z ∷ xs) (suc k) zero x y h = inr h
set_cases (z ∷ xs) (suc k) (suc j) x y h = elim (set_cases xs k j x y h) [
  | inl here ↦ inl (ap suc here.0, here.1)
  | inr there ↦ inr there
]

-- the last item of a list that was pushed to, or one before
pub pushed_get : {X : Type 0} (xs : List X) (x : X) (k : ℕ) (m : X) → slice_get (xs ++ x ∷ []) k ≡ Some m → (slice_get xs k ≡ Some m) ⊎ (x ≡ m)
pushed_get [] x zero m h = inr cc
pushed_get [] x (suc k) m h = absurd cc
pushed_get (y ∷ xs) x zero m h = inl h
pushed_get (y ∷ xs) x (suc k) m h = pushed_get xs x k m h
