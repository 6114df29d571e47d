-- Entries are in an order in which those that tie are one; and the greatest count of a store.
use Rattle.std.specs.Prelude.{◌≡◌, ℕ, ◌≤◌, ◌<◌, max, List, [], ◌∷◌, ◌++◌, length, Option, Some, None, true, false, refl, cond}
use Rattle.std.proofs.Common.{sym, ◌∙◌, ap, arith}
use Rattle.std.specs.Ordering.{eq_by_cmp, is_eq, is_le, nat_cmp, ordering_then}
use Rattle.std.specs.Cmp.{IsTotalOrder}
use Rattle.std.specs.FinMap.{FinMap, IsAntisymmetric, empty, get, insert, entries, get-entries, entries-insert, len-empty, len-entries, nat_cmp-IsAntisymmetric, slice_cmp-IsAntisymmetric}
use Rattle.std.specs.FinMap.Entries.{find, put, by_order}
use Rattle.std.specs.declared.cmp.Ordering.{Ordering}
use Rattle.std.specs.declared.cmp.Ordering.TheVariants.{Less, Equal, Greater}
use Rattle.std.proofs.lemmas.Cmp.{ranked, by_ranked, nat_list_cmp_total}
use Rattle.stamped_store.specs.Joins.{IsJoin}
use Rattle.stamped_store.specs.EntryOrder.{EntryAt, PlainEntry, body_cmp, site_cmp, entry_cmp_by, entry_cmp, greater_entry}
use Rattle.stamped_store.specs.EntryJoins.{entry_cmp_by_total}
use Rattle.stamped_store.specs.JoinMaps.{joined_onto}
use Rattle.stamped_store.specs.Greatest.{max_count, greatest_count, store_of}
use Rattle.stamped_store.proofs.GreatestsBy.{IsExactOrder, greater_is_join, by_test}
use Rattle.stamped_store.proofs.GreatestsBy.{alike as alike_by, greater_assoc as greater_assoc_by, greater_commutes as greater_commutes_by, greater_itself as greater_itself_by}

-- ---- entries that tie are one
then_both : (r s : Ordering) → ordering_then r s ≡ Equal → (r ≡ Equal) × (s ≡ Equal)
then_both Less s h = absurd (cc)
then_both Equal s h = (refl, h)
then_both Greater s h = absurd (cc)

exact_bodies : IsAntisymmetric body_cmp
exact_bodies None None h = refl
exact_bodies None (Some b) h = absurd (cc)
exact_bodies (Some a) None h = absurd (cc)
exact_bodies (Some a) (Some b) h = ap (λ x. Some x) (slice_cmp-IsAntisymmetric nat_cmp-IsAntisymmetric a b h)

same_fields : {Site : Type 0} (a b : EntryAt Site) → a.count ≡ b.count → a.site ≡ b.site → a.body ≡ b.body → a ≡ b
same_fields a b c s t = λ i. record { count = c i; site = s i; body = t i }

module _ {Site : Type 0} {sites : Site → Site → Ordering} where
  exact_entries_by : IsAntisymmetric sites → IsAntisymmetric (entry_cmp_by sites)
  exact_entries_by exact a b h =
      let outer = then_both (ordering_then (nat_cmp a.count b.count) (sites a.site b.site)) (body_cmp a.body b.body) h in
      let inner = then_both (nat_cmp a.count b.count) (sites a.site b.site) outer.0 in
      same_fields a b (nat_cmp-IsAntisymmetric a.count b.count inner.0) (exact a.site b.site inner.1) (exact_bodies a.body b.body outer.1)

  -- entries at sites of a type with an exact order have one
  pub entry_order_by : IsTotalOrder sites → IsAntisymmetric sites → IsExactOrder (entry_cmp_by sites)
  entry_order_by total exact = record { total = entry_cmp_by_total total; exact = exact_entries_by exact }

-- entries at sites with names
pub entry_order : IsExactOrder entry_cmp
entry_order = entry_order_by nat_list_cmp_total (slice_cmp-IsAntisymmetric nat_cmp-IsAntisymmetric)

pub exact_entries : IsAntisymmetric entry_cmp
exact_entries = entry_order.exact

pub greater_entry_is_join : IsJoin (λ a b. is_le (entry_cmp a b) ≡ true) greater_entry
greater_entry_is_join = greater_is_join entry_order

pub alike : (a b : PlainEntry) → is_le (entry_cmp a b) ≡ true → is_le (entry_cmp b a) ≡ true → a ≡ b
alike = alike_by entry_order

pub greater_assoc : (a b c : PlainEntry) → greater_entry (greater_entry a b) c ≡ greater_entry a (greater_entry b c)
greater_assoc = greater_assoc_by entry_order

pub greater_commutes : (a b : PlainEntry) → greater_entry a b ≡ greater_entry b a
greater_commutes = greater_commutes_by entry_order

pub greater_itself : (a : PlainEntry) → greater_entry a a ≡ a
greater_itself = greater_itself_by entry_order

-- ---- counts
abbrev opt_count : Option PlainEntry → ℕ
opt_count None = 0
opt_count (Some a) = a.count

le_counts : (x y : ℕ) (s t : Ordering) → is_le (ordering_then (ordering_then (nat_cmp x y) s) t) ≡ true → x ≤ y
le_counts x y s t h = by_ranked (x < y) (x ≡ y) (y < x) (nat_cmp x y) (ranked x y (nat_cmp x y) refl)
    (λ is p. omega arith) (λ is p. omega arith)
    (λ is p. let f : is_le (ordering_then (ordering_then (nat_cmp x y) s) t) ≡ false = ap (λ r. is_le (ordering_then (ordering_then r s) t)) is in absurd (cc))

pub count_le : (a b : PlainEntry) → is_le (entry_cmp a b) ≡ true → a.count ≤ b.count
count_le a b h = le_counts a.count b.count (site_cmp a.site b.site) (body_cmp a.body b.body) h

max_of_counts : (a b : PlainEntry) → (greater_entry a b).count ≡ max a.count b.count
max_of_counts a b =
    let l = count_le a (greater_entry a b) (greater_entry_is_join.above_left a b) in
    let r = count_le b (greater_entry a b) (greater_entry_is_join.above_right a b) in
    by_test (λ m. a.count ≤ m.count → b.count ≤ m.count → m.count ≡ max a.count b.count) a b (is_le (entry_cmp b a)) (λ p q. omega arith) (λ p q. omega arith) l r

module _ {N : Type 0} {R : N → N → Ordering} (o : IsTotalOrder R) where
  -- ---- the greatest count
  pub count_of_find : (k : N) (es : List (N × PlainEntry)) (held : PlainEntry) → find R k es ≡ Some held → held.count ≤ max_count es
  count_of_find k [] held h = absurd (cc)
  count_of_find k (e ∷ es) held h =
      elim (eq_by_cmp R k e.0) as (λ b. cond b (Some e.1) (find R k es) ≡ Some held → held.count ≤ max e.1.count (max_count es)) [
        | true ↦ λ g. let c : e.1.count ≡ held.count = ap opt_count g in omega arith
        | false ↦ λ g. let c = count_of_find k es held g in omega arith
      ] h

  max_count-put : (k : N) (w : PlainEntry) (es : List (N × PlainEntry)) → ((held : PlainEntry) → find R k es ≡ Some held → held.count ≤ w.count) → max_count (put R k w es) ≡ max (max_count es) w.count
  max_count-put k w [] h = omega arith
  max_count-put k w (e ∷ es) h =
      elim (R k e.0) as (λ r. R k e.0 ≡ r → max_count (by_order r ((k, w) ∷ e ∷ es) ((e.0, w) ∷ es) (e ∷ put R k w es)) ≡ max (max e.1.count (max_count es)) w.count) [
        | Less ↦ λ is. omega arith
        | Equal ↦ λ is. let c : e.1.count ≤ w.count = h e.1 (ap (λ r. cond (is_eq r) (Some e.1) (find R k es)) is) in omega arith
        | Greater ↦ λ is. let c = max_count-put k w es (λ held g. h held (ap (λ r. cond (is_eq r) (Some e.1) (find R k es)) is ∙ g)) in omega arith
      ] refl

  onto_count : (a : Option PlainEntry) (v : PlainEntry) → (joined_onto greater_entry a v).count ≡ max (opt_count a) v.count
  onto_count None v = omega arith
  onto_count (Some a) v = max_of_counts a v

  -- the greatest count after an update
  pub greatest_count-insert : (m : FinMap R PlainEntry) (k : N) (v : PlainEntry) → greatest_count (insert m k (joined_onto greater_entry (get m k) v)) ≡ max (greatest_count m) v.count
  greatest_count-insert m k v =
      let w = joined_onto greater_entry (get m k) v in
      let wc : w.count ≡ max (opt_count (get m k)) v.count = onto_count (get m k) v in
      let put_count : max_count (put R k w (entries m)) ≡ max (max_count (entries m)) w.count = max_count-put k w (entries m) (λ held g. let c : opt_count (get m k) ≡ held.count = ap opt_count (get-entries m k ∙ g) in omega arith) in
      let bounded : opt_count (get m k) ≤ max_count (entries m) = held_count m k (get m k) refl in
      let whole : max_count (entries (insert m k w)) ≡ max_count (put R k w (entries m)) = ap max_count (entries-insert o m k w) in
      omega arith
    where
      held_count : (m : FinMap R PlainEntry) (k : N) (a : Option PlainEntry) → get m k ≡ a → opt_count a ≤ max_count (entries m)
      held_count m k None h = omega arith
      held_count m k (Some held) h = count_of_find k (entries m) held (sym (get-entries m k) ∙ h)

  no_entries : (es : List (N × PlainEntry)) → length es ≡ 0 → max_count es ≡ 0
  no_entries [] h = refl
  no_entries (e ∷ es) h = absurd (omega arith)

  pub greatest_count-empty : greatest_count (empty {X = PlainEntry} {R = R}) ≡ 0
  greatest_count-empty = no_entries (entries empty) (sym (len-entries empty) ∙ len-empty R PlainEntry)

  -- the greatest count of the store of a set of updates is theirs
  pub greatest_count-store_of : (us : List (N × PlainEntry)) → greatest_count (store_of entry_cmp R us) ≡ max_count us
  greatest_count-store_of [] = greatest_count-empty
  greatest_count-store_of (u ∷ us) =
      let here = greatest_count-insert (store_of entry_cmp R us) u.0 u.1 in
      let rest = greatest_count-store_of us in
      omega arith

pub max_count-append : {N : Type 0} (us vs : List (N × PlainEntry)) → max_count (us ++ vs) ≡ max (max_count us) (max_count vs)
max_count-append [] vs = omega arith
max_count-append (u ∷ us) vs = let rest = max_count-append us vs in omega arith
