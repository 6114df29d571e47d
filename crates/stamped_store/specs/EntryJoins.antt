-- Defines the proof that the order of entries is total, and that the greater of two entries is their join. It is in
-- specs/ because the implementations of the traits `Ord` and `Join` for entries cite its lemmas.
use Rattle.std.specs.Prelude.{◌≡◌, ℕ, List, Bool, true, false, Option, Some, None, refl, if◌then◌else◌}
use Rattle.std.proofs.Common.{◌∙◌, ap}
use Rattle.std.specs.Ordering.{is_le, is_gt, ordering_reverse}
use Rattle.std.specs.Cmp.{IsTotalOrder}
use Rattle.std.proofs.lemmas.Cmp.{upto, tied_itself, nat_cmp_total, nat_list_cmp_total, on_total, then_total}
use Rattle.std.specs.declared.cmp.Ordering.{Ordering}
use Rattle.std.specs.declared.cmp.Ordering.TheVariants.{Less, Equal, Greater}
use Rattle.stamped_store.specs.declared.entry.Entry.{Entry}
use Rattle.stamped_store.specs.Joins.{IsJoin, join_from_least}
use Rattle.stamped_store.specs.EntryOrder.{plain_entry, entry_cmp, entry_cmp_by, body_cmp, entry_at_most}
use Rattle.stamped_store.specs.EntryOrder.{greater_of, greater, read_cmp}

body_antisymm : (a b : Option (List ℕ)) → body_cmp a b ≡ ordering_reverse (body_cmp b a)
body_antisymm None None = refl
body_antisymm None (Some b) = refl
body_antisymm (Some a) None = refl
body_antisymm (Some a) (Some b) = nat_list_cmp_total.antisymm a b

body_trans : (a b c : Option (List ℕ)) → body_cmp a b ≡ Less → body_cmp b c ≡ Less → body_cmp a c ≡ Less
body_trans None None c h k = k
body_trans None (Some b) None h k = absurd (cc)
body_trans None (Some b) (Some c) h k = refl
body_trans (Some a) None c h k = absurd (cc)
body_trans (Some a) (Some b) None h k = absurd (cc)
body_trans (Some a) (Some b) (Some c) h k = nat_list_cmp_total.trans a b c h k

body_congr : (a b c : Option (List ℕ)) → body_cmp a b ≡ Equal → body_cmp a c ≡ body_cmp b c
body_congr None None c h = refl
body_congr None (Some b) c h = absurd (cc)
body_congr (Some a) None c h = absurd (cc)
body_congr (Some a) (Some b) None h = refl
body_congr (Some a) (Some b) (Some c) h = nat_list_cmp_total.congr a b c h

-- The order of bodies is total.
pub body_cmp_total : IsTotalOrder body_cmp
body_cmp_total = record { antisymm = body_antisymm; trans = body_trans; congr = body_congr }

-- The order of entries is total if the order `sites` of their sites is.
pub entry_cmp_by_total : {Site : Type 0} {sites : Site → Site → Ordering} → IsTotalOrder sites
    → IsTotalOrder (entry_cmp_by sites)
entry_cmp_by_total o = then_total
    (then_total (on_total (λ p. p.count) nat_cmp_total) (on_total (λ p. p.site) o))
    (on_total (λ p. p.body) body_cmp_total)

-- The order of entries whose sites are names is total.
pub entry_cmp_total : IsTotalOrder entry_cmp
entry_cmp_total = entry_cmp_by_total nat_list_cmp_total

not_gt : (r : Ordering) → is_le r ≡ true → is_gt r ≡ false
not_gt Less h = refl
not_gt Equal h = refl
not_gt Greater h = absurd (cc)

le_of_not_gt : (r : Ordering) → is_gt r ≡ false → is_le r ≡ true
le_of_not_gt Less h = refl
le_of_not_gt Equal h = refl
le_of_not_gt Greater h = absurd (cc)

le_of_reversed : (r : Ordering) → is_le r ≡ false → is_le (ordering_reverse r) ≡ true
le_of_reversed Less h = absurd (cc)
le_of_reversed Equal h = absurd (cc)
le_of_reversed Greater h = refl

-- In a total order `R` the greater of two values is their join; `le_by a b` tests whether `a` is at most `b`.
module _ {V : Type 0} (R : V → V → Ordering) (o : IsTotalOrder R) where
  abbrev pub le_by : V → V → Bool
  le_by a b = is_le (R a b)

  le_itself : (a : V) → le_by a a ≡ true
  le_itself a = ap is_le (tied_itself o a)

  le_trans : (a b c : V) → le_by a b ≡ true → le_by b c ≡ true → le_by a c ≡ true
  le_trans a b c h k = le_of_not_gt (R a c) (upto o a b c (not_gt (R a b) h) (not_gt (R b c) k))

  turned : (a b : V) → le_by b a ≡ false → le_by a b ≡ true
  turned a b h = ap is_le (o.antisymm a b) ∙ le_of_reversed (R b a) h

  by_test : (P : V → Type 0) (a b : V) (t : Bool) → (t ≡ true → P a) → (t ≡ false → P b) → P (if t then a else b)
  by_test P a b true h k = h refl
  by_test P a b false h k = k refl

  pub greater_by_is_join : IsJoin (λ a b. le_by a b ≡ true) (greater_of R)
  greater_by_is_join = join_from_least (λ a b. le_by a b ≡ true) (greater_of R) le_itself le_trans
      (λ a b. by_test (λ x. le_by a x ≡ true) a b (le_by b a) (λ _. le_itself a) (turned a b))
      (λ a b. by_test (λ x. le_by b x ≡ true) a b (le_by b a) (λ h. h) (λ _. le_itself b))
      (λ a b c h k. by_test (λ x. le_by x c ≡ true) a b (le_by b a) (λ _. h) (λ _. k))

-- The order of entries with parsed forms is total, and the greater of two is their join.
pub read_cmp_total : {P : Type 0} → IsTotalOrder (read_cmp {P = P})
read_cmp_total = on_total plain_entry entry_cmp_total

pub greater_is_join : {P : Type 0} → IsJoin (λ (a b : Entry P). entry_at_most a b ≡ true) greater
greater_is_join = greater_by_is_join read_cmp read_cmp_total
