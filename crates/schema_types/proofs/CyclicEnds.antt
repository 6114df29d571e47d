-- A common type without an end leads to one that leads back to itself, where all that is named is declared.
use Rattle.std.proofs.Common.{◌≡◌, ◌∙◌, ◌⊎◌, inl, inr, ℕ, zero, suc, ◌≤◌, Bool, List, [], ◌∷◌, map, length, refl, sym, arith, subst}
use Rattle.schema_types.specs.Qualified as qualified
use Rattle.schema_types.specs.Qualified.{Qualified, QualifiedFields}
use Rattle.schema_types.specs.Cedar as cedar
use Rattle.schema_types.specs.Cedar.{Cedar, CedarFields}
use Rattle.schema_types.specs.Expansions as written
use Rattle.schema_types.specs.Expansions.{Declarations, Declares, IsExpansion, AreFieldExpansions}
use Rattle.schema_types.specs.Mentions.{Mentions, FieldsMention, Leads, step, steps}
use Rattle.schema_types.specs.Outcome.{SomeHasNoExpansion}
use Rattle.schema_types.specs.Law.{AreClosed, WhatHasNoExpansionLeadsBack, CyclesHaveNoExpansion, TypesExpandOrSomeCommonDoesNot}

-- ---- the names that are left

abbrev In : List (List ℕ) → List ℕ → Type 0
In [] q = ⊥
In (x ∷ xs) q = (x ≡ q) ⊎ In xs q

without : (xs : List (List ℕ)) (q : List ℕ) → In xs q → List (List ℕ)
without [] q i = []
without (x ∷ xs) q (inl e) = xs
without (x ∷ xs) q (inr i) = x ∷ without xs q i

fewer : (xs : List (List ℕ)) (q : List ℕ) (i : In xs q) → suc (length (without xs q i)) ≤ length xs
unfolding without
fewer [] q i = absurd i
fewer (x ∷ xs) q (inl e) = omega arith
fewer (x ∷ xs) q (inr i) = let rest = fewer xs q i in omega (arith, rest)

kept : (xs : List (List ℕ)) (q : List ℕ) (i : In xs q) (p : List ℕ) → In xs p → (q ≡ p) ⊎ In (without xs q i) p
unfolding without
kept [] q i p j = absurd j
kept (x ∷ xs) q (inl e) p (inl f) = inl (sym e ∙ f)
kept (x ∷ xs) q (inl e) p (inr j) = inr j
kept (x ∷ xs) q (inr i) p (inl f) = inr (inl f)
kept (x ∷ xs) q (inr i) p (inr j) = later (kept xs q i p j)
  where
    later : (q ≡ p) ⊎ In (without xs q i) p → (q ≡ p) ⊎ ((x ≡ p) ⊎ In (without xs q i) p)
    later (inl same) = inl same
    later (inr k) = inr (inr k)

declared_in : (ds : Declarations) (p : List ℕ) (s : Qualified) → Declares ds p s → In (map (λ d. d.0) ds) p
declared_in [] p s here = absurd here
declared_in (d ∷ ds) p s (inl h) = inl h.0
declared_in (d ∷ ds) p s (inr h) = inr (declared_in ds p s h)

-- ---- either an end or a cycle

module _ (commons : Declarations) where
  along : (p q end : List ℕ) → Leads commons p q → Leads commons q end → Leads commons p end
  along p q end (step _ _ r d m) l = steps p q end r d m l
  along p q end (steps _ x _ r d m k) l = steps p x end r d m (along x q end k l)

  abbrev Ends : Qualified → Type 0
  Ends r = (t : Cedar) × IsExpansion commons r t

  abbrev FieldsEnd : QualifiedFields → Type 0
  FieldsEnd rs = (ts : CedarFields) × AreFieldExpansions commons rs ts

  -- the name leads to one that leads back to itself
  abbrev Cycles : List ℕ → Type 0
  Cycles q = (p : List ℕ) × ((q ≡ p) ⊎ Leads commons q p) × Leads commons p p

  abbrev Inside : Qualified → Type 0
  Inside r = (x : List ℕ) × Mentions r x × Cycles x

  abbrev FieldsInside : QualifiedFields → Type 0
  FieldsInside rs = (x : List ℕ) × FieldsMention rs x × Cycles x

  set_end : (r : Qualified) → Ends r ⊎ Inside r → Ends (qualified.set r) ⊎ Inside (qualified.set r)
  set_end r (inl (t, w)) = inl (cedar.set t, written.set r t w)
  set_end r (inr c) = inr c

  record_end : (rs : QualifiedFields) → FieldsEnd rs ⊎ FieldsInside rs → Ends (qualified.record_of rs) ⊎ Inside (qualified.record_of rs)
  record_end rs (inl (ts, ws)) = inl (cedar.record_of ts, written.record_of rs ts ws)
  record_end rs (inr c) = inr c

  name_end : (q : List ℕ) → Ends (qualified.common q) ⊎ Cycles q → Ends (qualified.common q) ⊎ Inside (qualified.common q)
  name_end q (inl e) = inl e
  name_end q (inr c) = inr (q, refl, c)

  fields_end : (k : List ℕ) (r : Qualified) (b : Bool) (rs : QualifiedFields) → Ends r ⊎ Inside r → FieldsEnd rs ⊎ FieldsInside rs → FieldsEnd (qualified.field k r b rs) ⊎ FieldsInside (qualified.field k r b rs)
  fields_end k r b rs (inr (x, m, c)) rest = inr (x, inl m, c)
  fields_end k r b rs (inl e) (inr (x, m, c)) = inr (x, inr m, c)
  fields_end k r b rs (inl (t, w)) (inl (ts, ws)) = inl (cedar.field k t b ts, written.field k r t b rs ts w ws)

  mutual
    inside : (r : Qualified) → ((x : List ℕ) → Mentions r x → Ends (qualified.common x) ⊎ Cycles x) → Ends r ⊎ Inside r
    inside qualified.text go = inl (cedar.text, written.text)
    inside qualified.long go = inl (cedar.long, written.long)
    inside qualified.boolean go = inl (cedar.boolean, written.boolean)
    inside qualified.decimal go = inl (cedar.decimal, written.decimal)
    inside qualified.ipaddr go = inl (cedar.ipaddr, written.ipaddr)
    inside (qualified.set r) go = set_end r (inside r go)
    inside (qualified.record_of rs) go = record_end rs (inside_fields rs go)
    inside (qualified.entity n) go = inl (cedar.entity n, written.entity n)
    inside (qualified.common q) go = name_end q (go q refl)

    inside_fields : (rs : QualifiedFields) → ((x : List ℕ) → FieldsMention rs x → Ends (qualified.common x) ⊎ Cycles x) → FieldsEnd rs ⊎ FieldsInside rs
    inside_fields qualified.no_fields go = inl (cedar.no_fields, written.no_fields)
    inside_fields (qualified.field k r b rs) go = fields_end k r b rs (inside r (λ x m. go x (inl m))) (inside_fields rs (λ x m. go x (inr m)))

  -- each name that is declared is left, or leads to q
  abbrev AreReached : List (List ℕ) → List ℕ → Type 0
  AreReached left q = (p : List ℕ) (s : Qualified) → Declares commons p s → In left p ⊎ Leads commons p q

  next : (left : List (List ℕ)) (q : List ℕ) (r : Qualified) → Declares commons q r → AreReached left q → (i : In left q) (x : List ℕ) → Mentions r x → AreReached (without left q i) x
  next left q r d reached i x m p s here = by (reached p s here)
    where
      late : (q ≡ p) ⊎ In (without left q i) p → In (without left q i) p ⊎ Leads commons p x
      late (inl same) = inr (subst (λ (y : List ℕ). Leads commons y x) same (step q x r d m))
      late (inr k) = inl k

      by : In left p ⊎ Leads commons p q → In (without left q i) p ⊎ Leads commons p x
      by (inl j) = late (kept left q i p j)
      by (inr l) = inr (along p q x l (step q x r d m))

  outer : (q : List ℕ) (r : Qualified) → Declares commons q r → Ends r ⊎ Inside r → Ends (qualified.common q) ⊎ Cycles q
  outer q r d (inl (t, w)) = inl (t, written.common q r t d w)
  outer q r d (inr (x, m, (p, way, l))) = inr (p, inr (by way), l)
    where
      by : (x ≡ p) ⊎ Leads commons x p → Leads commons q p
      by (inl same) = subst (λ (y : List ℕ). Leads commons q y) same (step q x r d m)
      by (inr l) = steps q x p r d m l

  names : AreClosed commons → (n : ℕ) (left : List (List ℕ)) → length left ≤ n → (q : List ℕ) (r : Qualified) → Declares commons q r → AreReached left q → In left q ⊎ Leads commons q q → Ends (qualified.common q) ⊎ Cycles q
  names closed n left le q r d reached (inr l) = inr (q, inl refl, l)
  names closed zero [] le q r d reached (inl i) = absurd i
  names closed zero (x ∷ left) le q r d reached (inl i) = absurd (omega (arith, le))
  names closed (suc n) left le q r d reached (inl i) =
      let lt = fewer left q i in
      outer q r d (inside r (λ x m.
      let s = closed q r d x m in
      let there = next left q r d reached i x m in
      names closed n (without left q i) (omega (arith, lt, le)) x s.0 s.1 there (there x s.0 s.1)))

pub what_has_no_expansion_leads_back : WhatHasNoExpansionLeadsBack
what_has_no_expansion_leads_back commons closed q r d none =
    by (names commons closed (length (map (λ d. d.0) commons)) (map (λ d. d.0) commons) (omega arith) q r d (λ p s here. inl (declared_in commons p s here)) (inl (declared_in commons q r d)))
  where
    by : Ends commons (qualified.common q) ⊎ Cycles commons q → Cycles commons q
    by (inl (t, w)) = absurd (none t w)
    by (inr c) = c

-- ---- an end, or some common type without one

declared_first : (commons : Declarations) (p end : List ℕ) → Leads commons p end → (r : Qualified) × Declares commons p r
declared_first commons p end (step _ _ r d m) = (r, d)
declared_first commons p end (steps _ x _ r d m k) = (r, d)

pub types_expand_or_some_common_does_not : CyclesHaveNoExpansion → TypesExpandOrSomeCommonDoesNot
types_expand_or_some_common_does_not cycles commons once closed r here = by (inside commons r named)
  where
    named : (x : List ℕ) → Mentions r x → Ends commons (qualified.common x) ⊎ Cycles commons x
    named x m =
        let s = here x m in
        names commons closed (length (map (λ d. d.0) commons)) (map (λ d. d.0) commons) (omega arith) x s.0 s.1 (λ p t there. inl (declared_in commons p t there)) (inl (declared_in commons x s.0 s.1))

    by : Ends commons r ⊎ Inside commons r → Ends commons r ⊎ SomeHasNoExpansion commons
    by (inl e) = inl e
    by (inr (x, m, (p, way, l))) =
        let s = declared_first commons p p l in
        inr (record { name = p; type = s.0; declared = s.1; has_no_expansion = cycles commons once p l })
