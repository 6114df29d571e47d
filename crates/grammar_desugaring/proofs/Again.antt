-- The places at which names stand again, as a list and as a relation, and the fault that is told of them.
use Rattle.std.proofs.Common.{◌≡◌, ◌⊎◌, ℕ, ◌≤◌, ◌<◌, Bool, true, false, cond, List, [], ◌∷◌, map, filter, Option, Some, None, Contains, min, nat_lt, if◌then◌else◌, refl, sym, ◌∙◌, ap, subst, inl, inr, arith}
use Rattle.std.specs.Str.{bytes_eq}
use Rattle.std.proofs.lemmas.Bool.{ltb-true, ltb-false}
use Rattle.std.proofs.lemmas.Slice.Eq.{bytes_eq-Decides}
use Rattle.grammar_desugaring.specs.declared.fault.DesugarFault.{DesugarFault}
use Rattle.grammar_desugaring.specs.declared.fault.DesugarFault.TheVariants.{RepeatedKey}
use Rattle.grammar_desugaring.specs.ReportedErrors.{earlier_of, least}
use Rattle.grammar_desugaring.specs.Repeats.{NameAt, IsRepeatedAt, places_of, repeats, repeat_faults, RepeatsAreExact, RepeatsAreReported}
use Rattle.grammar_syntax.specs.Repeats.{IsLeast, ReportsLeast}
use Rattle.grammar_syntax.specs.inner.Lesser.{lesser_of}
use Rattle.grammar_desugaring.specs.inner.Searching.{repeat_fault}
use Rattle.std.proofs.lemmas.List.Elements.{Contains-append_left, Contains-append_right, Contains-append_cases}
use Rattle.plain.proofs.Members.{Contains-here, Contains-there, Contains-cases, Contains-none}
use Rattle.grammar_desugaring.proofs.AgainFront.{Later, again-there, again-here, again-front, again-none}
use Rattle.grammar_syntax.proofs.Repeating.{tells-same, tells-both}

-- ---- as a list

abbrev places : List NameAt → List ℕ
places = map (λ m. m.at)

kept-in : (b : Bool) (m : NameAt) (rest : List NameAt) (at : ℕ) → ((b ≡ true) × (at ≡ m.at)) ⊎ Contains (places rest) at → Contains (places (cond b (m ∷ rest) rest)) at
kept-in true m rest at (inl here) = subst (Contains (m.at ∷ places rest)) (sym here.1) (Contains-here m.at (places rest))
kept-in true m rest at (inr more) = Contains-there m.at (places rest) at more
kept-in false m rest at (inl here) = let no' : false ≡ true = here.0 in absurd cc
kept-in false m rest at (inr more) = more

kept-of : (b : Bool) (m : NameAt) (rest : List NameAt) (at : ℕ) → Contains (places (cond b (m ∷ rest) rest)) at → ((b ≡ true) × (at ≡ m.at)) ⊎ Contains (places rest) at
kept-of true m rest at c = elim (Contains-cases m.at (places rest) at c) [ inl e ↦ inl (refl, sym e) | inr more ↦ inr more ]
kept-of false m rest at c = inr c

in-places : (name : List ℕ) (ms : List NameAt) (at : ℕ) → Later name ms at → Contains (places_of name ms) at
in-places name [] at later = absurd later
in-places name (m ∷ ms) at later = kept-in (bytes_eq name m.name) m (filter (λ x. bytes_eq name x.name) ms) at (elim later [
  | inl here ↦ inl ((bytes_eq-Decides name m.name).1 (sym here.0), here.1)
  | inr more ↦ inr (in-places name ms at more)
])

of-places : (name : List ℕ) (ms : List NameAt) (at : ℕ) → Contains (places_of name ms) at → Later name ms at
of-places name [] at c = Contains-none at c
of-places name (m ∷ ms) at c = elim (kept-of (bytes_eq name m.name) m (filter (λ x. bytes_eq name x.name) ms) at c) [
  | inl here ↦ inl (sym ((bytes_eq-Decides name m.name).0 here.0), here.1)
  | inr more ↦ inr (of-places name ms at more)
]

in-repeats : (ms : List NameAt) (at : ℕ) → IsRepeatedAt ms at → Contains (repeats ms) at
in-repeats [] at again = again-none at again
in-repeats (m ∷ ms) at again = elim (again-front m ms at again) [
  | inl later ↦ Contains-append_left (places_of m.name ms) (repeats ms) at (in-places m.name ms at later)
  | inr more ↦ Contains-append_right (places_of m.name ms) (repeats ms) at (in-repeats ms at more)
]

of-repeats : (ms : List NameAt) (at : ℕ) → Contains (repeats ms) at → IsRepeatedAt ms at
of-repeats [] at c = Contains-none at c
of-repeats (m ∷ ms) at c = elim (Contains-append_cases (places_of m.name ms) (repeats ms) at c) [
  | inl here ↦ again-here m ms at (of-places m.name ms at here)
  | inr more ↦ again-there m ms at (of-repeats ms at more)
]

pub repeats_are_exact : RepeatsAreExact
repeats_are_exact marks at = (of-repeats marks at, in-repeats marks at)

-- ---- what is told

least_at : List ℕ → Option ℕ
least_at [] = None
least_at (p ∷ ps) = lesser_of (Some p) (least_at ps)

lesser_fault : (b : Bool) (p q : ℕ) → nat_lt q p ≡ b → (if b then RepeatedKey q else RepeatedKey p) ≡ RepeatedKey (min p q)
lesser_fault true p q e = ap RepeatedKey (let low : q < p = ltb-true q p e in omega (arith, low))
lesser_fault false p q e = ap RepeatedKey (let low : p ≤ q = ltb-false q p e in omega (arith, low))

earlier_fault : (p : ℕ) (o : Option ℕ) → earlier_of (Some (RepeatedKey p)) (repeat_fault o) ≡ repeat_fault (lesser_of (Some p) o)
earlier_fault p None = refl
earlier_fault p (Some q) = ap Some (lesser_fault (nat_lt q p) p q refl)

least_fault : (ps : List ℕ) → least (map RepeatedKey ps) ≡ repeat_fault (least_at ps)
unfolding least_at
least_fault [] = refl
least_fault (p ∷ ps) = ap (earlier_of (Some (RepeatedKey p))) (least_fault ps) ∙ earlier_fault p (least_at ps)

tells_first : (p : ℕ) → ReportsLeast (λ at. at ≡ p) (Some p)
tells_first p = record { here = refl; least = λ other e. let same : other ≡ p = e in omega arith }

tells_least : (ps : List ℕ) → ReportsLeast (Contains ps) (least_at ps)
unfolding least_at
tells_least [] = λ at c. Contains-none at c
tells_least (p ∷ ps) =
    tells-same (λ at. (at ≡ p) ⊎ Contains ps at) (Contains (p ∷ ps)) (lesser_of (Some p) (least_at ps))
    (λ at either. elim either [ inl e ↦ subst (Contains (p ∷ ps)) (sym e) (Contains-here p ps) | inr more ↦ Contains-there p ps at more ])
    (λ at c. elim (Contains-cases p ps at c) [ inl e ↦ inl (sym e) | inr more ↦ inr more ])
    (tells-both (λ at. at ≡ p) (Contains ps) (Some p) (least_at ps) (tells_first p) (tells_least ps))

least-same : (P : ℕ → Type 0) (a b : ℕ) → IsLeast P a → IsLeast P b → a ≡ b
least-same P a b p q = let low : a ≤ b = p.least b q.here in let high : b ≤ a = q.least a p.here in omega arith

tells-one : (P : ℕ → Type 0) (o p : Option ℕ) → ReportsLeast P o → ReportsLeast P p → o ≡ p
tells-one P None None a b = refl
tells-one P None (Some y) a b = absurd (a y b.here)
tells-one P (Some x) None a b = absurd (b x a.here)
tells-one P (Some x) (Some y) a b = ap Some (least-same P x y a b)

-- the least place is told
told-at : (marks : List NameAt) (o : Option ℕ) → ReportsLeast (IsRepeatedAt marks) o → least (repeat_faults marks) ≡ repeat_fault o
told-at marks o tells =
    least_fault (repeats marks)
    ∙ ap repeat_fault (tells-one (IsRepeatedAt marks) (least_at (repeats marks)) o
    (tells-same (Contains (repeats marks)) (IsRepeatedAt marks) (least_at (repeats marks)) (of-repeats marks) (in-repeats marks) (tells_least (repeats marks))) tells)

-- as a fault
pub fault_told : (marks : List NameAt) (o : Option ℕ) (fault : Option DesugarFault) → ReportsLeast (IsRepeatedAt marks) o → fault ≡ repeat_fault o → fault ≡ least (repeat_faults marks)
fault_told marks o fault tells is = is ∙ sym (told-at marks o tells)

pub repeats_are_told : RepeatsAreReported
repeats_are_told marks others there back =
    told-at marks (least_at (repeats others))
    (tells-same (Contains (repeats others)) (IsRepeatedAt marks) (least_at (repeats others)) (λ at c. back at (of-repeats others at c)) (λ at again. in-repeats others at (there at again))
    (tells_least (repeats others)))
    ∙ sym (least_fault (repeats others))
