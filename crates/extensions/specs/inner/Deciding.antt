-- Defines how compound statements are decided, from decisions of their parts. No body here is trusted: the type of each
-- procedure states what it decides.
use Rattle.std.specs.Prelude.{◌≡◌, ◌⊎◌, ℕ, zero, suc, ◌<◌, true, List, [], ◌∷◌, ◌++◌, refl}
use Rattle.std.proofs.Common.{inl, inr, ap, arith, sym, subst}
use Rattle.std.proofs.lemmas.Bool.{cases_lt, cases_Bool, false≢true}
use Rattle.std.specs.Str.{bytes_eq}
use Rattle.std.proofs.lemmas.Slice.Eq.{bytes_eq-Decides}
use Rattle.extensions.specs.Decided.{Decided}

-- `decided_as there back d` decides a statement by the decision `d` of an equivalent one; `there` and `back` prove that
-- they are equivalent.
pub decided_as : {P Q : Type 0} → (P → Q) → (Q → P) → Decided P → Decided Q
decided_as there back (inl p) = inl (there p)
decided_as there back (inr n) = inr (λ q. n (back q))

-- The next five procedures decide whether two statements both hold, whether at least one of them does, whether a number
-- is less than another, and whether two numbers or two strings are equal.
pub both_decided : {P Q : Type 0} → Decided P → Decided Q → Decided (P × Q)
both_decided (inl p) (inl q) = inl (p, q)
both_decided (inl p) (inr n) = inr (λ h. n h.1)
both_decided (inr n) d = inr (λ h. n h.0)

pub either_decided : {P Q : Type 0} → Decided P → Decided Q → Decided (P ⊎ Q)
either_decided (inl p) d = inl (inl p)
either_decided (inr n) (inl q) = inl (inr q)
either_decided (inr n) (inr m) = inr (λ h. elim h [ inl p ↦ n p | inr q ↦ m q ])

pub lt_decided : (a b : ℕ) → Decided (a < b)
lt_decided a b = elim (cases_lt a b) [ inl l ↦ inl l | inr g ↦ inr (λ l. omega arith) ]

pub number_decided : (a b : ℕ) → Decided (a ≡ b)
number_decided a b = elim (cases_lt a b) [
  | inl l ↦ inr (λ e. omega arith)
  | inr g ↦ elim (cases_lt b a) [ inl l ↦ inr (λ e. omega arith) | inr h ↦ inl (omega arith) ]
]

pub text_decided : (s t : List ℕ) → Decided (s ≡ t)
text_decided s t = elim (cases_Bool (bytes_eq s t)) [
  | inl e ↦ inl ((bytes_eq-Decides s t).0 e)
  | inr e ↦ inr (λ same. false≢true (let h : bytes_eq s t ≡ true = (bytes_eq-Decides s t).1 same in cc))
]

-- `below_decided n P d` decides whether `P` holds of some number below `n`, where `d` decides it of each number.
pub below_decided : (n : ℕ) (P : ℕ → Type 0) → ((k : ℕ) → Decided (P k)) → Decided ((k : ℕ) × (k < n) × P k)
below_decided zero P d = inr (λ h. absurd (omega (arith, h.1)))
below_decided (suc n) P d = elim (d n) [
  | inl p ↦ inl (n, omega arith, p)
  | inr none ↦ decided_as
      (λ h. (h.0, omega (arith, h.1), h.2))
      (λ h. elim (cases_lt h.0 n) [
        | inl l ↦ (h.0, l, h.2)
        | inr g ↦ let same : h.0 ≡ n = omega (arith, h.1) in absurd (none (subst P same h.2))
      ])
      (below_decided n P d)
]

-- `parted_decided P d text` decides whether `text` can be cut into two strings of which `P` holds, where `d` decides it
-- of any two strings.
pub parted_decided : (P : List ℕ → List ℕ → Type 0) → ((a b : List ℕ) → Decided (P a b)) → (text : List ℕ)
    → Decided ((a b : List ℕ) × (text ≡ a ++ b) × P a b)
parted_decided P d [] = decided_as
    (λ p. ([], [], refl, p))
    (λ h. none h.0 h.1 h.2 h.3)
    (d [] [])
  where
    none : (a b : List ℕ) → [] ≡ a ++ b → P a b → P [] []
    none [] b e p = subst (λ (xs : List ℕ). P [] xs) (sym e) p
    none (x ∷ a) b e p = absurd (cc)
parted_decided P d (c ∷ cs) = elim (d [] (c ∷ cs)) [
  | inl p ↦ inl ([], c ∷ cs, refl, p)
  | inr n ↦ decided_as
      (λ h. (c ∷ h.0, h.1, ap (λ (xs : List ℕ). c ∷ xs) h.2, h.3))
      (λ h. later n h.0 h.1 h.2 h.3)
      (parted_decided (λ a b. P (c ∷ a) b) (λ a b. d (c ∷ a) b) cs)
]
  where
    later : (P [] (c ∷ cs) → ⊥) → (a b : List ℕ) → c ∷ cs ≡ a ++ b → P a b
        → (a b : List ℕ) × (cs ≡ a ++ b) × P (c ∷ a) b
    later n [] b e p = absurd (n (subst (λ (xs : List ℕ). P [] xs) (sym e) p))
    later n (x ∷ a) b e p = (a, b, tail_of e, subst (λ k. P (k ∷ a) b) (sym (head_of e)) p)
      where
        head_of : c ∷ cs ≡ x ∷ (a ++ b) → c ≡ x
        head_of e = cc

        tail_of : c ∷ cs ≡ x ∷ (a ++ b) → cs ≡ a ++ b
        tail_of e = cc

-- `after_decided c P d text` decides whether `text` is the byte `c`, followed by a string of which `P` holds, where
-- `d` decides it of any string.
pub after_decided : (c : ℕ) (P : List ℕ → Type 0) → ((xs : List ℕ) → Decided (P xs)) → (text : List ℕ)
    → Decided ((xs : List ℕ) × (text ≡ c ∷ xs) × P xs)
after_decided c P d [] = inr (λ h. absurd (let e = h.1 in cc))
after_decided c P d (x ∷ xs) = decided_as
    (λ h. (xs, ap (λ k. k ∷ xs) h.0, h.1))
    (λ h. same h.0 h.1 h.2)
    (both_decided (number_decided x c) (d xs))
  where
    same : (ys : List ℕ) → x ∷ xs ≡ c ∷ ys → P ys → (x ≡ c) × P xs
    same ys e p = (cc, let tail : ys ≡ xs = cc in subst P tail p)
