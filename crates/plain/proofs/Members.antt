-- Members of lists.
use Rattle.std.proofs.Common.{◌≡◌, ◌↔◌, ℕ, zero, suc, true, false, List, [], ◌∷◌, refl, inl, inr, arith}
use Rattle.std.specs.Prelude.{Contains, ◌⊎◌, nat_eq}
use Rattle.plain.specs.Words.{reserved_words, IsReserved}
use Rattle.std.specs.List.{list_any}
use Rattle.std.specs.Cmp.Lexicographic.{pointwise}
use Rattle.std.proofs.lemmas.Bool.{cases_Bool}
use Rattle.std.proofs.lemmas.Slice.Eq.{bytes_eq-Decides}

module _ {X : Type 0} where
  pub Contains-here : (x : X) (xs : List X) → Contains (x ∷ xs) x
  Contains-here x xs = (0, omega arith, refl)

  pub Contains-there : (x : X) (xs : List X) (y : X) → Contains xs y → Contains (x ∷ xs) y
  Contains-there x xs y (k, lt, e) = (suc k, omega arith, e)

  pub Contains-cases : (x : X) (xs : List X) (y : X) → Contains (x ∷ xs) y → (x ≡ y) ⊎ Contains xs y
  Contains-cases x xs y (zero, lt, e) = inl e
  Contains-cases x xs y (suc k, lt, e) = inr (k, omega arith, e)

  pub Contains-none : (y : X) {G : Type 0} → Contains [] y → G
  Contains-none y (k, lt, e) = absurd (omega arith)

-- the test for a member of a list of texts
pub texts_any : (ws : List (List ℕ)) (w : List ℕ) → (list_any (λ y. pointwise nat_eq y w) ws ≡ true) ↔ Contains ws w
texts_any [] w = ((λ h. absurd (cc)), (λ h. Contains-none w h))
texts_any (x ∷ xs) w = elim (cases_Bool (pointwise nat_eq x w)) [
  | inl y ↦ rw y ((λ h. (0, omega arith, (bytes_eq-Decides x w).0 y)), (λ h. refl))
  | inr n ↦ rw n (
    (λ h. Contains-there x xs w ((texts_any xs w).0 h)),
    (λ h. elim (Contains-cases x xs w h) [
      | inl e ↦ let t : pointwise nat_eq x w ≡ true = (bytes_eq-Decides x w).1 e in absurd (cc)
      | inr t ↦ (texts_any xs w).1 t
    ]),
  )
]

-- a word that is on no list of words
pub not_reserved : (w : List ℕ) → list_any (λ y. pointwise nat_eq y w) reserved_words ≡ false → IsReserved w → ⊥
not_reserved w n h =
    let t : list_any (λ y. pointwise nat_eq y w) reserved_words ≡ true = (texts_any reserved_words w).1 h in absurd (cc)
