-- What is noted of numbers.
use Rattle.std.proofs.Common.{◌≡◌, ℕ, ◌+◌, ◌<◌, ◌≤◌, ◌^◌, zero, suc, List, [], ◌∷◌, ◌++◌, length, take, drop, refl, ap, sym, subst, inl, inr, ◌∙◌, arith, length-append, slice_set}
use Rattle.std.specs.Prelude.{◌⊎◌, slice_index_or}
use Rattle.std.proofs.lemmas.List.{get_or-set_other, get_or_append_left, take-append-le, drop-append-le, take-append-drop}
use Rattle.std.proofs.lemmas.Grind.{get_or-set_at}
use Rattle.std.proofs.Math.Seq.{get_or-append_seam, take-append_seam, drop-append_seam}
use Rattle.std.proofs.lemmas.List.Elements.{Contains-push_cases}
use Rattle.ancestor_search.specs.inner.Walking.{mark_of, done_mark, IsDone, IsAccounted, one_unseen, unseen}

pub differ : (x y : ℕ) → (x ≡ y) ⊎ (x ≡ y → ⊥)
differ zero zero = inl refl
differ zero (suc y) = inr (λ e. omega (arith, e))
differ (suc x) zero = inr (λ e. omega (arith, e))
differ (suc x) (suc y) = elim (differ x y) [ inl e ↦ inl (ap suc e) | inr off ↦ inr (λ e. off (omega (arith, e))) ]

pub below : (x y : ℕ) → (x < y) ⊎ (y ≤ x)
below x zero = inr (omega arith)
below zero (suc y) = inl (omega arith)
below (suc x) (suc y) = elim (below x y) [ inl h ↦ inl (omega (arith, h)) | inr h ↦ inr (omega (arith, h)) ]

pub mark-set : (place : List ℕ) (n m x : ℕ) → n < length place → x ≡ n → mark_of (slice_set place n m) x ≡ m
mark-set place n m x lt e = get_or-set_at place n x m done_mark e lt

pub mark-other : (place : List ℕ) (n m x : ℕ) → (x ≡ n → ⊥) → mark_of (slice_set place n m) x ≡ mark_of place x
mark-other place n m x off = get_or-set_other place n x m done_mark off

pub within : (place : List ℕ) (x : ℕ) → mark_of place x < done_mark → x < length place
within [] x h = absurd (omega (arith, h))
within (m ∷ ms) zero h = omega arith
within (m ∷ ms) (suc x) h = omega (arith, within ms x h)

pub past : (place : List ℕ) (x : ℕ) → length place ≤ x → mark_of place x ≡ done_mark
past [] x h = refl
past (m ∷ ms) zero h = absurd (omega (arith, h))
past (m ∷ ms) (suc x) h = past ms x (omega (arith, h))

one-none : (m : ℕ) → 0 < m → one_unseen m ≡ 0
one-none zero h = absurd (omega (arith, h))
one-none (suc m) h = refl

pub unseen-set : (place : List ℕ) (n m : ℕ) → mark_of place n ≡ 0 → 0 < m → unseen (slice_set place n m) + 1 ≡ unseen place
unseen-set [] n m z h = absurd (omega (arith, z))
unseen-set (x ∷ xs) zero m z h = rw z (let e = one-none m h in omega (arith, e))
unseen-set (x ∷ xs) (suc n) m z h = let rest = unseen-set xs n m z h in omega (arith, rest)

pub unseen-less : (place : List ℕ) (n m : ℕ) → 0 < m → unseen (slice_set place n m) ≤ unseen place
unseen-less [] n m h = omega arith
unseen-less (x ∷ xs) zero m h = let e = one-none m h in omega (arith, e)
unseen-less (x ∷ xs) (suc n) m h = let rest = unseen-less xs n m h in omega (arith, rest)

module _ {X : Type 0} where
  pub not_empty : (xs : List X) (x : X) → xs ++ x ∷ [] ≡ [] → ⊥
  not_empty [] x e = omega (arith, ap length e)
  not_empty (y ∷ ys) x e = omega (arith, ap length e)

  pub last_same : (xs ys : List X) (x y : X) → xs ++ x ∷ [] ≡ ys ++ y ∷ [] → (xs ≡ ys) × (x ≡ y)
  last_same xs ys x y e =
      let a : length (xs ++ x ∷ []) ≡ length xs + 1 = length-append xs (x ∷ []) in
      let b : length (ys ++ y ∷ []) ≡ length ys + 1 = length-append ys (y ∷ []) in
      let lens : length xs ≡ length ys = omega (arith, a, b, ap length e) in (
        sym (take-append_seam xs (x ∷ [])) ∙ ap (λ n. take n (xs ++ x ∷ [])) lens ∙ ap (λ l. take (length ys) l) e ∙ take-append_seam ys (y ∷ []),
        sym (get_or-append_seam xs x [] x) ∙ ap (λ n. slice_index_or (xs ++ x ∷ []) n x) lens ∙ ap (λ l. slice_index_or l (length ys) x) e ∙ get_or-append_seam ys y [] x,
      )

  -- the last of a list that has two parts, where the first part reaches off further than what is left
  pub last_of : (xs fs bs : List X) (y : X) → xs ++ y ∷ [] ≡ fs ++ bs → length fs ≤ length xs → (xs ≡ fs ++ drop (length fs) xs) × (bs ≡ drop (length fs) xs ++ y ∷ [])
  last_of xs fs bs y e le =
      let front : take (length fs) xs ≡ fs = sym (take-append-le (length fs) xs (y ∷ []) le) ∙ ap (λ l. take (length fs) l) e ∙ take-append_seam fs bs in (
        sym (take-append-drop (length fs) xs) ∙ ap (λ l. l ++ drop (length fs) xs) front,
        sym (drop-append_seam fs bs) ∙ ap (λ l. drop (length fs) l) (sym e) ∙ drop-append-le (length fs) xs (y ∷ []) le,
      )

module _ (place members : List ℕ) (n : ℕ) (new : mark_of place n ≡ 0) (small : length members < 2 ^ 63) where
  at-n : mark_of (slice_set place n (length members + 1)) n ≡ length members + 1
  at-n = mark-set place n (length members + 1) n (within place n (omega (arith, new))) refl

  pub IsAccounted-enter : (x : ℕ) → IsAccounted place members x → IsAccounted (slice_set place n (length members + 1)) (members ++ n ∷ []) x
  IsAccounted-enter x s = elim (differ x n) [
    | inl e ↦ subst (λ z. IsAccounted (slice_set place n (length members + 1)) (members ++ n ∷ []) z) (sym e)
        (inr (inr (length members, at-n, (let a : length (members ++ n ∷ []) ≡ length members + 1 = length-append members (n ∷ []) in omega (arith, a)), get_or-append_seam members n [] n)))
    | inr off ↦
        let same = mark-other place n (length members + 1) x off in
        elim s [
          | inl d ↦ inl (same ∙ d)
          | inr t ↦ elim t [
            | inl u ↦ inr (inl (same ∙ u.0, λ h. elim (Contains-push_cases members n x h) [ inl v ↦ u.1 v | inr e ↦ off (sym e) ]))
            | inr u ↦ inr (inr (u.0, same ∙ u.1, (let a : length (members ++ n ∷ []) ≡ length members + 1 = length-append members (n ∷ []) in omega (arith, a, u.2)), get_or_append_left members (n ∷ []) x u.0 u.2 ∙ u.3))
          ]
        ]
  ]

  pub done-up : (x : ℕ) → IsDone place x → IsDone (slice_set place n (length members + 1)) x
  done-up x d = elim (differ x n) [
    | inl e ↦ let z : mark_of place x ≡ 0 = subst (λ w. mark_of place w ≡ 0) (sym e) new in absurd (omega (arith, z, d))
    | inr off ↦ mark-other place n (length members + 1) x off ∙ d
  ]

  pub done-down : (x : ℕ) → IsDone (slice_set place n (length members + 1)) x → IsDone place x
  done-down x d = elim (differ x n) [
    | inl e ↦ let z : mark_of (slice_set place n (length members + 1)) x ≡ length members + 1 = subst (λ w. mark_of (slice_set place n (length members + 1)) w ≡ length members + 1) (sym e) at-n in absurd (omega (arith, z, d, small))
    | inr off ↦ sym (mark-other place n (length members + 1) x off) ∙ d
  ]

  pub seen-up : (x : ℕ) → (mark_of place x ≡ 0 → ⊥) → mark_of (slice_set place n (length members + 1)) x ≡ 0 → ⊥
  seen-up x seen z = elim (differ x n) [
    | inl e ↦ seen (subst (λ w. mark_of place w ≡ 0) (sym e) new)
    | inr off ↦ seen (sym (mark-other place n (length members + 1) x off) ∙ z)
  ]

  pub seen-n : mark_of (slice_set place n (length members + 1)) n ≡ 0 → ⊥
  seen-n z = omega (arith, at-n, z)
