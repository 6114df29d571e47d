-- Members of lists, and deciding.
use Rattle.std.specs.Prelude.{◌≡◌, ◌↔◌, IsTrue, List, [], ◌∷◌, map, false, Contains, refl}
use Rattle.std.proofs.lemmas.Bool.{false≢true}
use Rattle.std.proofs.Common.{inl, inr, sym, subst}
use Rattle.plain.proofs.Members.{Contains-here, Contains-there, Contains-cases, Contains-none}
use Rattle.values.specs.extensions.Decided.{Decided, is_proved}
use Rattle.values.specs.extensions.inner.Deciding.{decided_as, either_decided}

module _ {X : Type 0} where
  pub contains_decided : ((x y : X) → Decided (x ≡ y)) → (xs : List X) (x : X) → Decided (Contains xs x)
  contains_decided d [] x = inr (λ h. Contains-none x h)
  contains_decided d (y ∷ ys) x =
      decided_as
      (λ h. elim h [
        | inl e ↦ subst (λ z. Contains (y ∷ ys) z) e (Contains-here y ys)
        | inr m ↦ Contains-there y ys x m
      ])
      (Contains-cases y ys x) (either_decided (d y x) (contains_decided d ys x))

  -- some member of which P holds
  pub some_decided : (P : X → Type 0) → ((x : X) → Decided (P x)) → (xs : List X)
      → Decided ((x : X) × Contains xs x × P x)
  some_decided P d [] = inr (λ h. Contains-none h.0 h.1)
  some_decided P d (y ∷ ys) =
      decided_as
      (λ h. elim h [
        | inl p ↦ (y, Contains-here y ys, p)
        | inr q ↦ (q.0, Contains-there y ys q.0 q.1, q.2)
      ])
      (λ h. elim (Contains-cases y ys h.0 h.1) [
        | inl e ↦ inl (subst P (sym e) h.2)
        | inr m ↦ inr (h.0, m, h.2)
      ])
      (either_decided (d y) (some_decided P d ys))

pub Contains-mapped : {X Y : Type 0} (f : X → Y) (xs : List X) (x : X) → Contains xs x → Contains (map f xs) (f x)
Contains-mapped f [] x c = Contains-none x c
Contains-mapped f (y ∷ ys) x c = elim (Contains-cases y ys x c) [
  | inl e ↦ subst (λ z. Contains (f y ∷ map f ys) (f z)) e (Contains-here (f y) (map f ys))
  | inr m ↦ Contains-there (f y) (map f ys) (f x) (Contains-mapped f ys x m)
]

pub Contains-unmapped : {X Y : Type 0} (f : X → Y) (xs : List X) (y : Y) → Contains (map f xs) y
    → (x : X) × Contains xs x × (f x ≡ y)
Contains-unmapped f [] y c = Contains-none y c
Contains-unmapped f (x ∷ xs) y c = elim (Contains-cases (f x) (map f xs) y c) [
  | inl e ↦ (x, Contains-here x xs, e)
  | inr m ↦ let h = Contains-unmapped f xs y m in (h.0, Contains-there x xs h.0 h.1, h.2)
]

-- the test tells it
pub told_iff : {P : Type 0} (d : Decided P) → IsTrue (is_proved d) ↔ P
told_iff (inl p) = ((λ t. p), (λ p. refl))
told_iff (inr n) = ((λ t. absurd (false≢true t)), (λ p. absurd (n p)))

-- the test of what does not hold
pub told_not : {P : Type 0} (d : Decided P) → ¬ P → is_proved d ≡ false
told_not (inl p) n = absurd (n p)
told_not (inr m) n = refl
