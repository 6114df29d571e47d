-- Which names stand again in a list of marks, told from its front. This file and Members are meant to be imported by
-- the proofs of crates above.
use Rattle.std.proofs.Common.{◌≡◌, ◌⊎◌, ℕ, List, [], ◌∷◌, ◌++◌, map, Contains, refl, sym, ◌∙◌, ap, subst, inl, inr}
use Rattle.grammar_desugaring.specs.Repeats.{NameAt, IsRepeatedAt}
use Rattle.plain.proofs.Members.{Contains-here, Contains-there, Contains-cases, Contains-none}

-- a mark of this name stands here
abbrev pub Later : List ℕ → List NameAt → ℕ → Type 0
Later name [] at = ⊥
Later name (m ∷ ms) at = ((m.name ≡ name) × (at ≡ m.at)) ⊎ Later name ms at

heads : {A : Type 0} (x y : A) (xs ys : List A) → x ∷ xs ≡ y ∷ ys → x ≡ y
heads x y xs ys e = cc

tails : {A : Type 0} (x y : A) (xs ys : List A) → x ∷ xs ≡ y ∷ ys → xs ≡ ys
tails x y xs ys e = cc

later-at : (before : List NameAt) (mark : NameAt) (behind : List NameAt) → Later mark.name (before ++ mark ∷ behind) mark.at
later-at [] mark behind = inl (refl, refl)
later-at (b ∷ bs) mark behind = inr (later-at bs mark behind)

pub again-there : (m : NameAt) (ms : List NameAt) (at : ℕ) → IsRepeatedAt ms at → IsRepeatedAt (m ∷ ms) at
again-there m ms at again = record {
  before = m ∷ again.before;
  mark = again.mark;
  behind = again.behind;
  whole = ap (λ xs. m ∷ xs) again.whole;
  again = Contains-there m.name (map (λ x. x.name) again.before) again.mark.name again.again;
  place = again.place;
}

split-later : (name : List ℕ) (ms : List NameAt) (at : ℕ) → Later name ms at →
    (before : List NameAt) × (mark : NameAt) × (behind : List NameAt) × (ms ≡ before ++ mark ∷ behind) × (mark.name ≡ name) × (at ≡ mark.at)
split-later name [] at later = absurd later
split-later name (m ∷ ms) at later = elim later [
  | inl here ↦ ([], m, ms, refl, here.0, here.1)
  | inr more ↦ let s = split-later name ms at more in (m ∷ s.0, s.1, s.2, ap (λ xs. m ∷ xs) s.3, s.4, s.5)
]

pub again-here : (m : NameAt) (ms : List NameAt) (at : ℕ) → Later m.name ms at → IsRepeatedAt (m ∷ ms) at
again-here m ms at later = let s = split-later m.name ms at later in record {
  before = m ∷ s.0;
  mark = s.1;
  behind = s.2;
  whole = ap (λ xs. m ∷ xs) s.3;
  again = subst (λ x. Contains (m.name ∷ map (λ y. y.name) s.0) x) (sym s.4) (Contains-here m.name (map (λ y. y.name) s.0));
  place = s.5;
}

front : (m : NameAt) (ms before : List NameAt) (mark : NameAt) (behind : List NameAt) (at : ℕ) → m ∷ ms ≡ before ++ mark ∷ behind →
    Contains (map (λ x. x.name) before) mark.name → at ≡ mark.at → Later m.name ms at ⊎ IsRepeatedAt ms at
front m ms [] mark behind at whole again place = Contains-none mark.name again
front m ms (b ∷ bs) mark behind at whole again place =
    let same : m ≡ b = heads m b _ _ whole in
    let rest : ms ≡ bs ++ mark ∷ behind = tails m b _ _ whole in
    elim (Contains-cases b.name (map (λ x. x.name) bs) mark.name again) [
      | inl e ↦ inl (subst (λ xs. Later m.name xs at) (sym rest) (subst (λ n. Later n (bs ++ mark ∷ behind) at) (sym (ap (λ x. x.name) same ∙ e))
          (subst (Later mark.name (bs ++ mark ∷ behind)) (sym place) (later-at bs mark behind))))
      | inr more ↦ inr (record { before = bs; mark = mark; behind = behind; whole = rest; again = more; place = place })
    ]

pub again-front : (m : NameAt) (ms : List NameAt) (at : ℕ) → IsRepeatedAt (m ∷ ms) at → Later m.name ms at ⊎ IsRepeatedAt ms at
again-front m ms at again = front m ms again.before again.mark again.behind at again.whole again.again again.place

pub again-none : (at : ℕ) {G : Type 0} → IsRepeatedAt [] at → G
again-none at again = nothing again.before again.mark again.behind again.whole where
  nothing : {G : Type 0} (before : List NameAt) (mark : NameAt) (behind : List NameAt) → [] ≡ before ++ mark ∷ behind → G
  nothing [] mark behind e = absurd cc
  nothing (b ∷ bs) mark behind e = absurd cc
