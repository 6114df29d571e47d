-- A binary search in an ascending list.
use Rattle.std.proofs.Common.{◌≡◌, ℕ, ◌≤◌, List, length, get_or, refl, ap, sym, ◌∙◌, inl, inr, arith, Result, Ok, Err}
use Rattle.std.specs.Prelude.{Contains, ◌↔◌, IsTrue, is_ok}
use Rattle.std.specs.List.Sorted.{IsBinarySearchResult, IsSearchInRange, IsNonDecreasingBy}
use Rattle.std.specs.Ordering.{ordering_index}
use Rattle.std.specs.Cmp.{alike_right, tied_itself}
use Rattle.std.specs.declared.cmp.Ordering.{Ordering}
use Rattle.std.specs.declared.cmp.Ordering.TheVariants.{Less, Equal, Greater}
use Rattle.std.proofs.lemmas.Map.Keys.{Less-from_sorted}
use Rattle.std.proofs.lemmas.Bool.{cases_lt}
use Rattle.values.specs.declared.entity_uid.EntityUid.{EntityUid}
use Rattle.values.specs.Names.{uid_cmp, uid_cmp-IsTotalOrder, uid_cmp-IsAntisymmetric}
use Rattle.ancestor_search.specs.Hierarchy.{IsAscending}

-- what a greater one compares as is no less
rises : (a b x : EntityUid) → uid_cmp a b ≡ Less → (r : Ordering) → uid_cmp b x ≡ r → ordering_index (uid_cmp a x) ≤ ordering_index r
rises a b x lt Less e = rw (uid_cmp-IsTotalOrder.trans a b x lt e) (omega arith)
rises a b x lt Equal e = rw (sym (alike_right uid_cmp-IsTotalOrder b x a e) ∙ lt) (omega arith)
rises a b x lt Greater e = top (uid_cmp a x)
  where
    top : (o : Ordering) → ordering_index o ≤ 2
    top Less = omega arith
    top Equal = omega arith
    top Greater = omega arith

comparisons_rise : (xs : List EntityUid) (x : EntityUid) → IsAscending xs → IsNonDecreasingBy (λ y. ordering_index (uid_cmp y x)) xs
comparisons_rise xs x sorted i j d le lt = elim (cases_lt i j) [
  | inl below ↦ rises (get_or xs i d) (get_or xs j d) x (Less-from_sorted uid_cmp xs i j d sorted below lt) (uid_cmp (get_or xs j d) x) refl
  | inr above ↦ let same : i ≡ j = omega arith in rw same (omega arith)
]

pub found_in : (xs : List EntityUid) (x : EntityUid) (r : Result ℕ ℕ) → IsAscending xs → IsSearchInRange r (length xs) → IsBinarySearchResult (λ y. uid_cmp y x) xs r → IsTrue (is_ok r) ↔ Contains xs x
found_in xs x (Ok i) sorted bound at = (λ _. (i, bound, uid_cmp-IsAntisymmetric _ x (at x)), λ _. refl)
found_in xs x (Err i) sorted bound parted = (λ t. cc t, λ h. absurd (apart h))
  where
    apart : Contains xs x → ⊥
    apart (k, lt, e) =
        let parts = parted (comparisons_rise xs x sorted) in
        let tied : uid_cmp (get_or xs k x) x ≡ Equal = ap (λ y. uid_cmp y x) e ∙ tied_itself uid_cmp-IsTotalOrder x in
        elim (cases_lt k i) [
          | inl below ↦ let less = parts.0 k x (omega arith) below in cc (less, tied)
          | inr above ↦ let greater = parts.1 k x above lt in cc (greater, tied)
        ]
