-- Which names stand again, one mark after another.
use Rattle.std.proofs.Common.{◌≡◌, ◌⊎◌, ℕ, ◌≤◌, Bool, true, false, cond, not, ◌||◌, List, [], ◌∷◌, ◌++◌, map, Option, Some, None, Contains, refl, sym, ◌∙◌, ap, subst, inl, inr, append_assoc, arith, min, ◌+◌, ◌<◌, length, get_or, take}
use Rattle.std.specs.List.{list_any}
use Rattle.std.specs.Ordering.{nat_cmp, is_eq}
use Rattle.std.specs.Cmp.{IsEquivalence}
use Rattle.std.specs.Cmp.Lexicographic.{slice_cmp, nat_list_eq_equiv}
use Rattle.std.specs.Str.{bytes_eq}
use Rattle.std.specs.BTreeSet.{BTreeSet, contains_by, Updates}
use Rattle.std.proofs.lemmas.List.{map-append, take_more}
use Rattle.std.proofs.lemmas.List.Folds.{list_any-append}
use Rattle.std.proofs.lemmas.Map.Text.{is_eq-slice_cmp}
use Rattle.std.proofs.lemmas.Map.Views.{Contains-from_any, list_any-from_Contains}
use Rattle.std.proofs.lemmas.Slice.Eq.{bytes_eq-Decides}
use denote.Ref.{Bor}
use Rattle.grammar_syntax.specs.declared.repeats.NameAt as code
use Rattle.grammar_syntax.specs.Repeats.{NameAt, IsRepeatedAt, ReportsLeast, abstract_names}
use Rattle.grammar_syntax.specs.inner.Lesser.{lesser_of}

-- the names of marks
abbrev pub names : List NameAt → List (List ℕ)
names = map (λ m. m.name)

-- whether a set of texts has these bytes
abbrev pub has : BTreeSet (Bor (List ℕ)) → List ℕ → Bool
has seen bytes = contains_by (λ k. slice_cmp nat_cmp bytes k.now) seen

-- The set has the names of these marks, and this is the least place at which one of them stands again.
pub record Seen (marks : List NameAt) (seen : BTreeSet (Bor (List ℕ))) (least : Option ℕ) : Type 0 where
  pub has_names : (bytes : List ℕ) → has seen bytes ≡ list_any (bytes_eq bytes) (names marks)
  pub tells : ReportsLeast (IsRepeatedAt marks) least

-- the same places have the same least
pub tells-same : (P Q : ℕ → Type 0) (o : Option ℕ) → ((at : ℕ) → P at → Q at) → ((at : ℕ) → Q at → P at) → ReportsLeast P o → ReportsLeast Q o
tells-same P Q None there back none = λ at q. none at (back at q)
tells-same P Q (Some at) there back least = record { here = there at least.here; least = λ other q. least.least other (back other q) }

min_either : (a b : ℕ) → (min a b ≡ a) ⊎ (min a b ≡ b)
min_either a b = grind arith

lesser : (P Q : ℕ → Type 0) (a b : ℕ) → P a → Q b → P (min a b) ⊎ Q (min a b)
lesser P Q a b p q = elim (min_either a b) [ inl e ↦ inl (subst P (sym e) p) | inr e ↦ inr (subst Q (sym e) q) ]

-- the least of two is the least of both
pub tells-both : (P Q : ℕ → Type 0) (a b : Option ℕ) → ReportsLeast P a → ReportsLeast Q b → ReportsLeast (λ at. P at ⊎ Q at) (lesser_of a b)
tells-both P Q None None no_p no_q = λ at either. elim either [ inl p ↦ no_p at p | inr q ↦ no_q at q ]
tells-both P Q None (Some b) no_p least =
    record { here = inr least.here; least = λ other either. elim either [ inl p ↦ absurd (no_p other p) | inr q ↦ least.least other q ] }
tells-both P Q (Some a) None least no_q =
    record { here = inl least.here; least = λ other either. elim either [ inl p ↦ least.least other p | inr q ↦ absurd (no_q other q) ] }
tells-both P Q (Some a) (Some b) p q = record { here = lesser P Q a b p.here q.here; least = λ other either. elim either [ inl x ↦ let low : a ≤ other = p.least other x in omega arith | inr y ↦ let low : b ≤ other = q.least other y in omega arith ] }

heads : {A : Type 0} (x y : A) (xs ys : List A) → x ∷ xs ≡ y ∷ ys → x ≡ y
heads x y xs ys e = cc

tails : {A : Type 0} (x y : A) (xs ys : List A) → x ∷ xs ≡ y ∷ ys → xs ≡ ys
tails x y xs ys e = cc

-- where the last of some marks is split off
split : (ms before : List NameAt) (m mark : NameAt) (behind : List NameAt) → ms ++ m ∷ [] ≡ before ++ mark ∷ behind →
    ((left : List NameAt) × (ms ≡ before ++ mark ∷ left)) ⊎ ((ms ≡ before) × (m ≡ mark))
split [] [] m mark behind e = inr (refl, cc)
split [] (b ∷ []) m mark behind e = absurd (cc)
split [] (b ∷ (c ∷ cs)) m mark behind e = absurd (cc)
split (x ∷ xs) [] m mark behind e = inl (xs, cc)
split (x ∷ xs) (b ∷ bs) m mark behind e = elim (split xs bs m mark behind (tails x b _ _ e)) [
  | inl found ↦ inl (found.0, let same : x ≡ b = heads x b _ _ e in let rest : xs ≡ bs ++ mark ∷ found.0 = found.1 in cc)
  | inr found ↦ inr (let same : x ≡ b = heads x b _ _ e in let rest : xs ≡ bs = found.0 in cc, found.1)
]

-- what stands again among some marks stands again among more
again-more : (ms more : List NameAt) (at : ℕ) → IsRepeatedAt ms at → IsRepeatedAt (ms ++ more) at
again-more ms more at again = record {
  before = again.before;
  mark = again.mark;
  behind = again.behind ++ more;
  whole = ap (λ xs. xs ++ more) again.whole ∙ append_assoc again.before (again.mark ∷ again.behind) more;
  again = again.again;
  place = again.place;
}

-- the last mark stands again where its name stands before
again-last : (ms : List NameAt) (m : NameAt) → Contains (names ms) m.name → IsRepeatedAt (ms ++ m ∷ []) m.at
again-last ms m before = record { before = ms; mark = m; behind = []; whole = refl; again = before; place = refl }

again-split : (ms : List NameAt) (m : NameAt) (at : ℕ) → IsRepeatedAt (ms ++ m ∷ []) at → IsRepeatedAt ms at ⊎ ((at ≡ m.at) × Contains (names ms) m.name)
again-split ms m at again = elim (split ms again.before m again.mark again.behind again.whole) [
  | inl found ↦ inl (record { before = again.before; mark = again.mark; behind = found.0; whole = found.1; again = again.again; place = again.place })
  | inr found ↦ inr (
    again.place ∙ ap (λ x. x.at) (sym found.1),
    subst (λ xs. Contains (names xs) m.name) (sym found.0) (subst (λ x. Contains (names again.before) x) (ap (λ x. x.name) (sym found.1)) again.again),
  )
]

bytes_equiv : IsEquivalence bytes_eq
bytes_equiv = nat_list_eq_equiv

bytes_same : (xs ys : List ℕ) → bytes_eq xs ys ≡ true → xs ≡ ys
bytes_same xs ys = (bytes_eq-Decides xs ys).0

also : (b e f : Bool) → e ≡ f → cond e true b ≡ (b || f)
also true true f same = refl
also true false f same = refl
also false true f same = same
also false false f same = same

-- the set with one text more
grown : (seen more : BTreeSet (Bor (List ℕ))) (k : Bor (List ℕ)) → Updates (λ x y. slice_cmp nat_cmp x.now y.now) seen more k true →
    (bytes : List ℕ) → has more bytes ≡ (has seen bytes || bytes_eq bytes k.now)
grown seen more k updates bytes = updates.0 (record { ref_ptr = (0, 0); now = bytes }) ∙ also (has seen bytes) _ _ (is_eq-slice_cmp k.now bytes ∙ bytes_equiv.symm k.now bytes)

none : (before : List NameAt) (mark : NameAt) (behind : List NameAt) → [] ≡ before ++ mark ∷ behind → ⊥
none [] mark behind e = absurd (cc)
none (b ∷ bs) mark behind e = absurd (cc)

pub seen-none : (seen : BTreeSet (Bor (List ℕ))) → seen.keys ≡ [] → Seen [] seen None
seen-none seen empty = record {
  has_names = λ bytes. ap (λ ks. list_any (λ k. is_eq (slice_cmp nat_cmp bytes k.now)) ks) empty;
  tells = λ at again. none again.before again.mark again.behind again.whole;
}

or_false : (b : Bool) → (b || false) ≡ b
or_false true = refl
or_false false = refl

differ : {b : Bool} → b ≡ true → b ≡ false → ⊥
differ yes' no' = absurd (cc)

-- the names with one mark more
has-more : (ms : List NameAt) (m : NameAt) (k : Bor (List ℕ)) (seen more : BTreeSet (Bor (List ℕ))) → k.now ≡ m.name →
    ((bytes : List ℕ) → has seen bytes ≡ list_any (bytes_eq bytes) (names ms)) → Updates (λ x y. slice_cmp nat_cmp x.now y.now) seen more k true →
    (bytes : List ℕ) → has more bytes ≡ list_any (bytes_eq bytes) (names (ms ++ m ∷ []))
has-more ms m k seen more same was updates bytes =
    grown seen more k updates bytes ∙ ap (λ b. b || bytes_eq bytes k.now) (was bytes) ∙ ap (λ x. list_any (bytes_eq bytes) (names ms) || bytes_eq bytes x) same
    ∙ ap (λ b. list_any (bytes_eq bytes) (names ms) || b) (sym (or_false (bytes_eq bytes m.name)))
    ∙ sym (list_any-append (bytes_eq bytes) (names ms) (m.name ∷ [])) ∙ ap (list_any (bytes_eq bytes)) (sym (map-append (λ x. x.name) ms (m ∷ [])))

-- a name that is new
pub seen-new : (ms : List NameAt) (m : NameAt) (k : Bor (List ℕ)) (seen more : BTreeSet (Bor (List ℕ))) (least : Option ℕ) → Seen ms seen least → k.now ≡ m.name →
    has seen k.now ≡ false → Updates (λ x y. slice_cmp nat_cmp x.now y.now) seen more k true → Seen (ms ++ m ∷ []) more least
seen-new ms m k seen more least was same new updates = record {
  has_names = has-more ms m k seen more same was.has_names updates;
  tells = tells-same (IsRepeatedAt ms) (IsRepeatedAt (ms ++ m ∷ [])) least (again-more ms (m ∷ [])) (λ at again. elim (again-split ms m at again) [
    | inl before ↦ before
    | inr last ↦ absurd (differ (list_any-from_Contains bytes_equiv m.name (names ms) last.1) (sym (was.has_names m.name) ∙ ap (has seen) (sym same) ∙ new))
  ]) was.tells;
}

-- a name that stands again
pub seen-again : (ms : List NameAt) (m : NameAt) (k : Bor (List ℕ)) (seen more : BTreeSet (Bor (List ℕ))) (least : Option ℕ) → Seen ms seen least → k.now ≡ m.name →
    has seen k.now ≡ true → Updates (λ x y. slice_cmp nat_cmp x.now y.now) seen more k true → Seen (ms ++ m ∷ []) more (lesser_of least (Some m.at))
seen-again ms m k seen more least was same old updates = record {
  has_names = has-more ms m k seen more same was.has_names updates;
  tells = tells-same (λ at. IsRepeatedAt ms at ⊎ (at ≡ m.at)) (IsRepeatedAt (ms ++ m ∷ [])) _
      (λ at either. elim either [
        | inl before ↦ again-more ms (m ∷ []) at before
        | inr e ↦ subst (IsRepeatedAt (ms ++ m ∷ [])) (sym e) (again-last ms m (Contains-from_any bytes_same m.name (names ms) (sym (was.has_names m.name) ∙ ap (has seen) (sym same) ∙ old)))
      ])
      (λ at again. elim (again-split ms m at again) [ inl before ↦ inl before | inr last ↦ inr last.0 ])
      (tells-both (IsRepeatedAt ms) (λ at. at ≡ m.at) least (Some m.at) was.tells (record { here = refl; least = λ other e. let same_place : other ≡ m.at = e in omega arith }));
}

-- one mark more of those that code holds
pub shown-more : (ms : List code.NameAt) (i : ℕ) (d : code.NameAt) → i < length ms →
    abstract_names (take (i + 1) ms) ≡ abstract_names (take i ms) ++ record { name = (get_or ms i d).name.now; at = (get_or ms i d).at } ∷ []
shown-more ms i d below = ap abstract_names (take_more ms i d below) ∙ map-append _ (take i ms) _

pub was_new : (b c : Bool) → c ≡ true → c ≡ not b → b ≡ false
was_new true c yes' e = absurd (cc)
was_new false c yes' e = refl

pub was_old : (b c : Bool) → c ≡ false → c ≡ not b → b ≡ true
was_old true c no' e = refl
was_old false c no' e = absurd (cc)
