-- The five digits of 1, 2 and so on are distinct names of sites.
use Rattle.std.specs.Prelude.{◌≡◌, ◌<◌, ◌⊎◌, ◌∷◌, ◌++◌, [], ℕ, zero, suc, List, length, slice_get, Some, refl}
use Rattle.std.proofs.Common.{sym, ap, ◌∙◌, subst, arith, inl, inr}
use Rattle.std.proofs.lemmas.List.{length-append}
use Rattle.site_store.specs.stamped_store.SiteNames.{IsSiteName, SiteDigitsAreNames, five_digits}
use Rattle.site.specs.Sites.{SiteName, AreSites, first_sites}

-- an item of the list is one of the list before, or the last
pushed_at : {X : Type 0} (xs : List X) (x : X) (k : ℕ) (y : X) → slice_get (xs ++ x ∷ []) k ≡ Some y
    → (slice_get xs k ≡ Some y) ⊎ ((k ≡ length xs) × (x ≡ y))
pushed_at [] x zero y h = inr (refl, cc)
pushed_at [] x (suc k) y h = absurd cc
pushed_at (z ∷ xs) x zero y h = inl h
pushed_at (z ∷ xs) x (suc k) y h = elim (pushed_at xs x k y h) [
  | inl there ↦ inl there
  | inr last ↦ inr (ap suc last.0, last.1)
]

length_first : (count : ℕ) → length (first_sites count) ≡ count
length_first zero = refl
length_first (suc c) =
    let one = length-append (first_sites c) (five_digits (suc c) ∷ []) in
    let before = length_first c in
    omega arith

first_at : (count k : ℕ) (n : SiteName) → slice_get (first_sites count) k ≡ Some n → (k < count) × (five_digits (suc k) ≡ n)
first_at zero k n h = absurd cc
first_at (suc c) k n h = elim (pushed_at (first_sites c) (five_digits (suc c)) k n h) [
  | inl there ↦
      let old = first_at c k n there in
      let below = old.0 in
      (omega arith, old.1)
  | inr last ↦
      let place : k ≡ c = last.0 ∙ length_first c in
      (omega arith, ap (λ (j : ℕ). five_digits (suc j)) place ∙ last.1)
]

pub first_are_sites : SiteDigitsAreNames
    → ((m n : ℕ) → m < 100000 → n < 100000 → five_digits m ≡ five_digits n → m ≡ n)
    → (count : ℕ) → count < 100000 → AreSites (first_sites count)
first_are_sites digits apart count small = record {
  named = λ k n h.
      let at = first_at count k n h in
      let below = at.0 in
      subst IsSiteName at.1 (digits (suc k) (omega arith));
  distinct = λ j k n h i.
      let a = first_at count j n h in
      let b = first_at count k n i in
      let below_a = a.0 in
      let below_b = b.0 in
      let same = apart (suc j) (suc k) (omega arith) (omega arith) (a.1 ∙ sym b.1) in
      omega arith;
}
