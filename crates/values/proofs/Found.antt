-- What a binary search finds in a set, and what a walk over it finds.
use Rattle.std.proofs.Common.{◌≡◌, ℕ, ◌≤◌, List, length, get_or, refl, ap, sym, ◌∙◌, inl, inr, arith, Result, Ok, Err}
use Rattle.std.specs.Prelude.{Contains, ◌↔◌, IsTrue, is_ok}
use Rattle.std.specs.List.Sorted.{IsBinarySearchResult, IsSearchInRange, IsNonDecreasingBy}
use Rattle.std.specs.Ordering.{ordering_index}
use Rattle.std.specs.Cmp.{alike_right}
use Rattle.std.specs.declared.cmp.Ordering.{Ordering}
use Rattle.std.specs.declared.cmp.Ordering.TheVariants.{Less, Equal, Greater}
use Rattle.std.proofs.lemmas.Map.Keys.{Less-from_sorted}
use Rattle.std.proofs.lemmas.Bool.{cases_lt}
use Rattle.std.specs.Cmp.{tied_itself}
use Rattle.std.specs.List.Sorted.{IsStrictlySortedBy}
use Rattle.std.specs.Prelude.{Bool, true, false, [], ◌∷◌}
use Rattle.std.specs.Ordering.{is_eq}
use Rattle.std.proofs.lemmas.Bool.{cases_Bool}
use Rattle.values.specs.Values.{PlainValue}
use Rattle.values.specs.ValueOrder.{value_cmp, value_cmp-IsTotalOrder, value_cmp-IsAntisymmetric}
use Rattle.values.specs.Sets.{has_member}
use Rattle.extensions.proofs.of_plain.Members.{Contains-there, Contains-cases, Contains-none}

-- what a greater one compares as is no less
rises : (a b x : PlainValue) → value_cmp a b ≡ Less → (r : Ordering) → value_cmp b x ≡ r → ordering_index (value_cmp a x) ≤ ordering_index r
rises a b x lt Less e = rw (value_cmp-IsTotalOrder.trans a b x lt e) (omega arith)
rises a b x lt Equal e = rw (sym (alike_right value_cmp-IsTotalOrder b x a e) ∙ lt) (omega arith)
rises a b x lt Greater e = top (value_cmp a x)
  where
    top : (o : Ordering) → ordering_index o ≤ 2
    top Less = omega arith
    top Equal = omega arith
    top Greater = omega arith

comparisons_rise : (xs : List PlainValue) (x : PlainValue) → IsStrictlySortedBy value_cmp xs → IsNonDecreasingBy (λ y. ordering_index (value_cmp y x)) xs
comparisons_rise xs x sorted i j d le lt = elim (cases_lt i j) [
  | inl below ↦ rises (get_or xs i d) (get_or xs j d) x (Less-from_sorted value_cmp xs i j d sorted below lt) (value_cmp (get_or xs j d) x) refl
  | inr above ↦ let same : i ≡ j = omega arith in rw same (omega arith)
]

pub found_in : (xs : List PlainValue) (x : PlainValue) (r : Result ℕ ℕ) → IsStrictlySortedBy value_cmp xs → IsSearchInRange r (length xs) → IsBinarySearchResult (λ y. value_cmp y x) xs r → IsTrue (is_ok r) ↔ Contains xs x
found_in xs x (Ok i) sorted bound at = (λ _. (i, bound, value_cmp-IsAntisymmetric _ x (at x)), λ _. refl)
found_in xs x (Err i) sorted bound parted = (λ t. cc t, λ h. absurd (apart h))
  where
    apart : Contains xs x → ⊥
    apart (k, lt, e) =
        let parts = parted (comparisons_rise xs x sorted) in
        let tied : value_cmp (get_or xs k x) x ≡ Equal = ap (λ y. value_cmp y x) e ∙ tied_itself value_cmp-IsTotalOrder x in
        elim (cases_lt k i) [
          | inl below ↦ let less = parts.0 k x (omega arith) below in cc (less, tied)
          | inr above ↦ let greater = parts.1 k x above lt in cc (greater, tied)
        ]

eq_of : (o : Ordering) → IsTrue (is_eq o) → o ≡ Equal
eq_of Less e = absurd (cc)
eq_of Equal e = refl
eq_of Greater e = absurd (cc)

-- the test for a member holds of the members
pub has_member-is : (xs : List PlainValue) (x : PlainValue) → IsTrue (has_member xs x) ↔ Contains xs x
has_member-is [] x = ((λ t. absurd (cc)), (λ h. Contains-none x h))
has_member-is (y ∷ ys) x = elim (cases_Bool (is_eq (value_cmp y x))) [
  | inl e ↦ rw e ((λ t. (0, omega arith, value_cmp-IsAntisymmetric y x (eq_of (value_cmp y x) e))), (λ h. refl))
  | inr n ↦ rw n (
    (λ t. Contains-there y ys x ((has_member-is ys x).0 t)),
    (λ h. elim (Contains-cases y ys x h) [
      | inl e ↦ let t : is_eq (value_cmp y x) ≡ true = ap is_eq (ap (λ z. value_cmp z x) e ∙ tied_itself value_cmp-IsTotalOrder x) in absurd (cc)
      | inr t ↦ (has_member-is ys x).1 t
    ]),
  )
]

-- two tests that hold together are one
pub same_test : (p q : Bool) (P : Type 0) → (IsTrue p ↔ P) → (IsTrue q ↔ P) → p ≡ q
same_test true true P f g = refl
same_test true false P f g = sym (g.1 (f.0 refl))
same_test false true P f g = f.1 (g.0 refl)
same_test false false P f g = refl
