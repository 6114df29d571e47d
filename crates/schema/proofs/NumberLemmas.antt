-- What is above each entity, as numbers.
use Rattle.std.proofs.Common.{◌≡◌, ◌∙◌, ℕ, zero, suc, ◌+◌, ◌<◌, ◌≤◌, arith, Bool, true, false, cond, List, [], ◌∷◌}
use Rattle.std.proofs.Common.{◌++◌, length, drop, get_or, Option, Some, None, refl, sym, ap, subst, inl, inr}
use Rattle.std.proofs.Common.{append_assoc, append-nil}
use Rattle.std.specs.Prelude.{⊤, Contains, IsTrue, IsSome, ◌↔◌, ◌⊎◌, ◌||◌, ◌&&◌, nat_le}
use Rattle.std.specs.Borrow.{Bor}
use Rattle.std.specs.List.{slice_get}
use Rattle.std.specs.Ordering.{is_eq}
use Rattle.std.specs.BTreeMap.{BTreeMap, get, Updates}
use Rattle.std.proofs.lemmas.Bool.{leb-true, le-leb, and_parts}
use Rattle.std.proofs.lemmas.List.{drop_all, map-append, length-map}
use Rattle.std.proofs.lemmas.List.Folds.{list_any-append}
use Rattle.std.proofs.lemmas.Option.{slice_get_within}
use Rattle.std.proofs.lemmas.Map.Views.{tells_apart}
use Rattle.json_words.proofs.EachSame.{cut}
use Rattle.schema.specs.declared.spans.NumberSpan.{NumberSpan}
use Rattle.schema.specs.Spans.{in_span, has_number}
use Rattle.values.specs.declared.entity_uid.EntityUid.{EntityUid}
use Rattle.values.specs.Names.{uid_cmp, text_cmp, uid_cmp-IsAntisymmetric}
use Rattle.ancestor_search.specs.Hierarchy.{Parents, Path, IsAncestor, AreAllAncestorsOf, referenced}
use Rattle.ancestor_search.specs.Deciding.{Contains-here, Contains-there, Contains-cases, Contains-none}
use Rattle.schema_reading.specs.Qualifying.{ResolvedEntityType}
use Rattle.schema.specs.LookUps.{has_number_at}
use Rattle.schema.specs.declared.numbering.Numbered.{Numbered}
use Rattle.schema.specs.declared.type_numbers.TypeNumbers.{TypeNumbers}
use Rattle.schema.specs.Schemas.{type_uid}
use Rattle.schema.specs.inner.Filling as filling
use Rattle.schema.specs.inner.Numbering.{Numbers, IsApart, IsNumbering, NumbersAll, AddsNumber, HasAncestors, KeepsAncestors}
use Rattle.schema.specs.inner.Numbering.{single, HasSpans, AddsParent, AddsParents, single_of, singles, AreAncestors}
use Rattle.schema.specs.inner.Numbering.{AddsName, AreNames, type_points, AreNumbers}
use Rattle.schema.proofs.HierarchyLemmas.{contains_map}

some_same : {A : Type 0} (x y : A) → (let o : Option A = Some x in o) ≡ Some y → x ≡ y
some_same x y e = cc

some_of : {A : Type 0} (o : Option A) → IsSome o → (x : A) × (o ≡ Some x)
some_of None h = absurd cc
some_of (Some x) h = (x, refl)

pub none_some : {A : Type 0} {G : Type 0} {x : A} → None ≡ Some x → G
none_some e = absurd cc

or_cases : (a b : Bool) → (a || b) ≡ true → (a ≡ true) ⊎ (b ≡ true)
or_cases true b h = inl refl
or_cases false b h = inr h

or_left : (a b : Bool) → a ≡ true → (a || b) ≡ true
or_left true b h = refl
or_left false b h = absurd cc

or_right : (a b : Bool) → b ≡ true → (a || b) ≡ true
or_right true b h = refl
or_right false b h = h

and_from : (a b : Bool) → a ≡ true → b ≡ true → (a && b) ≡ true
and_from true b h k = k
and_from false b h k = absurd cc

-- ---- a list with one more at its end

get_before : {A : Type 0} (xs : List A) (x : A) (i : ℕ) → i < length xs → slice_get (xs ++ x ∷ []) i ≡ slice_get xs i
get_before [] x i lt = absurd (omega (arith, lt))
get_before (y ∷ ys) x zero lt = refl
get_before (y ∷ ys) x (suc i) lt = get_before ys x i (omega (arith, lt))

get_last : {A : Type 0} (xs : List A) (x : A) → slice_get (xs ++ x ∷ []) (length xs) ≡ Some x
get_last [] x = refl
get_last (y ∷ ys) x = get_last ys x

pub one_longer : {A : Type 0} (xs : List A) (x : A) (ys : List A) (i : ℕ) → ys ≡ xs ++ x ∷ [] → length xs ≡ i → length ys ≡ i + 1
one_longer xs x ys i e len = let l = longer xs x in let same : length ys ≡ length (xs ++ x ∷ []) = ap (λ zs. length zs) e in omega (arith, l, same, len)
  where
    longer : {A : Type 0} (xs : List A) (x : A) → length (xs ++ x ∷ []) ≡ suc (length xs)
    longer [] x = refl
    longer (y ∷ ys) x = ap suc (longer ys x)

-- what stands in a list with one more stood there, or is the last
get_pushed : {A : Type 0} (xs : List A) (x y : A) (i : ℕ) → slice_get (xs ++ x ∷ []) i ≡ Some y → (slice_get xs i ≡ Some y) ⊎ ((i ≡ length xs) × (x ≡ y))
get_pushed [] x y zero e = inr (refl, some_same x y e)
get_pushed [] x y (suc i) e = none_some e
get_pushed (z ∷ zs) x y zero e = inl e
get_pushed (z ∷ zs) x y (suc i) e = elim (get_pushed zs x y i e) [
  | inl before ↦ inl before
  | inr last ↦ inr (ap suc last.0, last.1)
]

names_pushed : (xs ys : List (Bor EntityUid)) (b : Bor EntityUid) → ys ≡ xs ++ b ∷ [] → referenced ys ≡ referenced xs ++ b.now ∷ []
names_pushed xs ys b e = ap referenced e ∙ map-append (λ (x : Bor EntityUid). x.now) xs (b ∷ [])

-- what stands at a place of a list of references
name_at : (xs : List (Bor EntityUid)) (i : ℕ) (x : Bor EntityUid) → i < length xs → x ≡ get_or xs i x → slice_get (referenced xs) i ≡ Some x.now
name_at [] i x lt e = absurd (omega (arith, lt))
name_at (y ∷ ys) zero x lt e = ap (λ (z : Bor EntityUid). Some z.now) (sym e)
name_at (y ∷ ys) (suc i) x lt e = name_at ys i x (omega (arith, lt)) e

-- ---- numbers

pub apart : (at : Numbers) (us : List EntityUid) → IsNumbering at us → IsApart at
apart at us numbering u v i e f = some_same u v (sym (numbering u i e) ∙ numbering v i f)

pub had_number : (n : Numbered) (u : EntityUid) → IsSome (get uid_cmp n.numbers u) → AddsNumber u n n
had_number n u h = record { keeps = λ k. k; kept = λ q e. e; there = h }

module _ (old new : Numbered) (b : Bor EntityUid) (key : EntityUid) (number : ℕ) (same : key ≡ b.now) (is : number ≡ length old.listed.items)
    (updates : Updates uid_cmp old.numbers new.numbers key (Some number)) (more : new.listed.items ≡ old.listed.items ++ b ∷ []) where
  abbrev us : List EntityUid
  us = referenced old.listed.items

  listed : referenced new.listed.items ≡ us ++ b.now ∷ []
  listed = names_pushed old.listed.items new.listed.items b more

  last : slice_get (us ++ b.now ∷ []) number ≡ Some b.now
  last = ap (λ (i : ℕ). slice_get (us ++ b.now ∷ []) i) (is ∙ sym (length-map old.listed.items (λ (x : Bor EntityUid). x.now))) ∙ get_last us b.now

  stands : IsNumbering (get uid_cmp old.numbers) us → (q : EntityUid) (i : ℕ) (t : Bool) → is_eq (uid_cmp key q) ≡ t → cond t (Some number) (get uid_cmp old.numbers q) ≡ Some i
      → slice_get (us ++ b.now ∷ []) i ≡ Some q
  stands numbering q i true e h =
      let at : number ≡ i = some_same number i h in
      let here : b.now ≡ q = sym same ∙ tells_apart uid_cmp-IsAntisymmetric key q e in
      subst (λ (j : ℕ). slice_get (us ++ b.now ∷ []) j ≡ Some q) at (last ∙ ap Some here)
  stands numbering q i false e h =
      let before = numbering q i h in
      get_before us b.now i (slice_get_within us i q before) ∙ before

  still : (q : EntityUid) (t : Bool) → IsSome (get uid_cmp old.numbers q) → IsSome (cond t (Some number) (get uid_cmp old.numbers q))
  still q true h = refl
  still q false h = h

  pub gets_number : AddsNumber b.now old new
  gets_number = record {
    keeps = λ numbering q i e.
        ap (λ (xs : List EntityUid). slice_get xs i) listed ∙ stands numbering q i (is_eq (uid_cmp key q)) refl (sym (updates.0 q) ∙ e);
    kept = λ q h. subst (λ (o : Option ℕ). IsSome o) (sym (updates.0 q)) (still q (is_eq (uid_cmp key q)) h);
    there = subst (λ (q : EntityUid). IsSome (get uid_cmp new.numbers q)) same (subst (λ (o : Option ℕ). IsSome o) (sym updates.1) refl);
  }

-- the same as a change of what is found
abbrev pub Gives : List EntityUid → Numbers → Numbers → Type 0
Gives us old new = filling.AddsEach (λ u q i. ⊤) (λ u q. u ≡ q) (λ u. ⊤) us old new

pub given : (u : EntityUid) (old new : Numbered) → AddsNumber u old new
    → filling.AddsEntries (λ (q : EntityUid) (i : ℕ). ⊤) (λ q. u ≡ q) ⊤ (get uid_cmp old.numbers) (get uid_cmp new.numbers)
given u old new a = record {
  sound = λ q i e. inl tt;
  all = λ q e. subst (λ (x : EntityUid). IsSome (get uid_cmp new.numbers x)) e a.there;
  kept = a.kept;
  also = tt;
}

pub all_given : (vs : List EntityUid) (at : Numbers) → Gives vs (λ u. None) at → NumbersAll vs at
all_given vs at g u h = g.all u (u, h, refl)

-- ---- spans

has_both : (xs ys : List NumberSpan) (i : ℕ) → has_number (xs ++ ys) i ≡ (has_number xs i || has_number ys i)
has_both xs ys i = list_any-append (λ (s : NumberSpan). in_span i s) xs ys

single_is : (n i : ℕ) → in_span i (single n) ≡ true → n ≡ i
single_is n i h =
    let both = and_parts (nat_le n i) (nat_le i n) h in
    let a = leb-true n i both.0 in
    let b = leb-true i n both.1 in
    omega (arith, a, b)

single_has : (i : ℕ) → in_span i (single i) ≡ true
single_has i = let le : i ≤ i = omega arith in and_from (nat_le i i) (nat_le i i) (le-leb i i le) (le-leb i i le)

none_has : (i : ℕ) {G : Type 0} → has_number [] i ≡ true → G
none_has i h = absurd cc

module _ (parents : Parents) (at : Numbers) (is_apart : IsApart at) where
  -- ---- by parents
  module _ (reached : List (List NumberSpan)) (keeps : KeepsAncestors parents at reached) where
    -- q is one of these, or above one
    abbrev IsFrom : List EntityUid → EntityUid → Type 0
    IsFrom ps q = (p : EntityUid) × Contains ps p × ((p ≡ q) ⊎ IsAncestor parents q p)

    one_to : (p q : EntityUid) (old new : List NumberSpan) (i : ℕ) → AddsParent at reached p old new → at q ≡ Some i → IsTrue (has_number new i)
        → IsTrue (has_number old i) ⊎ ((p ≡ q) ⊎ IsAncestor parents q p)
    one_to p q old new i a e h =
        let further = a.has.further in
        let whole : (has_number old i || has_number (single a.number ∷ further) i) ≡ true = sym (has_both old (single a.number ∷ further) i) ∙ ap (λ (ss : List NumberSpan). has_number ss i) (sym a.has.are) ∙ h in
        elim (or_cases (has_number old i) (has_number (single a.number ∷ further) i) whole) [
          | inl before ↦ inl before
          | inr added ↦ elim (or_cases (in_span i (single a.number)) (has_number further i) added) [
            | inl here ↦ inr (inl (is_apart p q i (a.named ∙ ap Some (single_is a.number i here)) e))
            | inr later ↦ inr (inr ((keeps p a.number further a.named a.has.reaches q i e).0 later))
          ]
        ]

    one_from : (p q : EntityUid) (old new : List NumberSpan) (i : ℕ) → AddsParent at reached p old new → at q ≡ Some i → IsTrue (has_number old i) ⊎ ((p ≡ q) ⊎ IsAncestor parents q p)
        → IsTrue (has_number new i)
    one_from p q old new i a e h =
        let further = a.has.further in
        let added : (in_span i (single a.number) || has_number further i) ≡ true → IsTrue (has_number new i) = λ k.
        ap (λ (ss : List NumberSpan). has_number ss i) a.has.are ∙ has_both old (single a.number ∷ further) i ∙ or_right (has_number old i) (has_number (single a.number ∷ further) i) k in
        elim h [
          | inl before ↦ ap (λ (ss : List NumberSpan). has_number ss i) a.has.are ∙ has_both old (single a.number ∷ further) i ∙ or_left (has_number old i) (has_number (single a.number ∷ further) i) before
          | inr here ↦ elim here [
            | inl same ↦
                let number : a.number ≡ i = some_same a.number i (sym a.named ∙ ap at same ∙ e) in
                added (or_left (in_span i (single a.number)) (has_number further i) (subst (λ (n : ℕ). in_span i (single n) ≡ true) (sym number) (single_has i)))
            | inr above ↦ added (or_right (in_span i (single a.number)) (has_number further i) ((keeps p a.number further a.named a.has.reaches q i e).1 above))
          ]
        ]

    all_to : (ps : List EntityUid) (old new : List NumberSpan) → AddsParents at reached ps old new → (q : EntityUid) (i : ℕ) → at q ≡ Some i → IsTrue (has_number new i)
        → IsTrue (has_number old i) ⊎ IsFrom ps q
    all_to [] old new a q i e h = inl (subst (λ (ss : List NumberSpan). IsTrue (has_number ss i)) a h)
    all_to (p ∷ ps) old new (mid, one, rest) q i e h = elim (all_to ps mid new rest q i e h) [
      | inl before ↦ elim (one_to p q old mid i one e before) [
        | inl older ↦ inl older
        | inr here ↦ inr (p, Contains-here p ps, here)
      ]
      | inr later ↦ inr (later.0, Contains-there p ps later.0 later.1, later.2)
    ]

    all_from : (ps : List EntityUid) (old new : List NumberSpan) → AddsParents at reached ps old new → (q : EntityUid) (i : ℕ) → at q ≡ Some i
        → IsTrue (has_number old i) ⊎ IsFrom ps q → IsTrue (has_number new i)
    all_from [] old new a q i e (inl h) = subst (λ (ss : List NumberSpan). IsTrue (has_number ss i)) (sym a) h
    all_from [] old new a q i e (inr h) = Contains-none h.0 h.1
    all_from (p ∷ ps) old new (mid, one, rest) q i e (inl h) = all_from ps mid new rest q i e (inl (one_from p q old mid i one e (inl h)))
    all_from (p ∷ ps) old new (mid, one, rest) q i e (inr h) = elim (Contains-cases p ps h.0 h.1) [
      | inl same ↦ all_from ps mid new rest q i e (inl (one_from p q old mid i one e (inr (subst (λ (x : EntityUid). (x ≡ q) ⊎ IsAncestor parents q x) (sym same) h.2))))
      | inr later ↦ all_from ps mid new rest q i e (inr (h.0, later, h.2))
    ]

    up : (u q : EntityUid) → IsFrom (parents u) q → IsAncestor parents q u
    up u q (p, edge, inl same) = ([], subst (λ (x : EntityUid). Contains (parents u) x) same edge)
    up u q (p, edge, inr above) = (p ∷ above.0, (edge, above.1))

    down : (u q : EntityUid) (through : List EntityUid) → Path parents u through q → IsFrom (parents u) q
    down u q [] h = (q, h, inl refl)
    down u q (c ∷ cs) h = (c, h.0, inr (cs, h.1))

    pub by_parents : (u : EntityUid) (spans : List NumberSpan) → AddsParents at reached (parents u) [] spans → HasAncestors parents at u spans
    by_parents u spans a q i e = (
      (λ h. elim (all_to (parents u) [] spans a q i e h) [
        | inl none ↦ none_has i none
        | inr from ↦ up u q from
      ]),
      (λ above. all_from (parents u) [] spans a q i e (inr (down u q above.0 above.1))),
    )

  -- ---- by a search
  one_of : (u q : EntityUid) (i : ℕ) → at q ≡ Some i → (o : Option ℕ) → at u ≡ o → IsTrue (has_number (single_of o) i) → u ≡ q
  one_of u q i e None f h = none_has i h
  one_of u q i e (Some n) f h = elim (or_cases (in_span i (single n)) false h) [
    | inl here ↦ is_apart u q i (f ∙ ap Some (single_is n i here)) e
    | inr none ↦ absurd cc
  ]

  singles_to : (us : List EntityUid) (q : EntityUid) (i : ℕ) → at q ≡ Some i → IsTrue (has_number (singles at us) i) → Contains us q
  singles_to [] q i e h = none_has i h
  singles_to (u ∷ us) q i e h = elim (or_cases (has_number (single_of (at u)) i) (has_number (singles at us) i) (sym (has_both (single_of (at u)) (singles at us) i) ∙ h)) [
    | inl here ↦ subst (λ (x : EntityUid). Contains (x ∷ us) q) (sym (one_of u q i e (at u) refl here)) (Contains-here q us)
    | inr later ↦ Contains-there u us q (singles_to us q i e later)
  ]

  singles_from : (us : List EntityUid) (q : EntityUid) (i : ℕ) → at q ≡ Some i → Contains us q → IsTrue (has_number (singles at us) i)
  singles_from [] q i e h = Contains-none q h
  singles_from (u ∷ us) q i e h = has_both (single_of (at u)) (singles at us) i ∙ elim (Contains-cases u us q h) [
    | inl same ↦ or_left (has_number (single_of (at u)) i) (has_number (singles at us) i)
        (ap (λ (o : Option ℕ). has_number (single_of o) i) (ap at same ∙ e) ∙ or_left (in_span i (single i)) false (single_has i))
    | inr later ↦ or_right (has_number (single_of (at u)) i) (has_number (singles at us) i) (singles_from us q i e later)
  ]

  pub by_search : (u : EntityUid) (found : List EntityUid) (spans : List NumberSpan) → AreAllAncestorsOf parents u found → spans ≡ singles at found → HasAncestors parents at u spans
  by_search u found spans all is q i e = (
    (λ h. (all q).0 (singles_to found q i e (subst (λ (ss : List NumberSpan). IsTrue (has_number ss i)) is h))),
    (λ above. subst (λ (ss : List NumberSpan). IsTrue (has_number ss i)) (sym is) (singles_from found q i e ((all q).1 above))),
  )

  pub same_spans : (u : EntityUid) (spans found : List NumberSpan) → ((i : ℕ) → has_number found i ≡ has_number spans i) → HasAncestors parents at u spans → HasAncestors parents at u found
  same_spans u spans found same has q i e = ((λ h. (has q i e).0 (sym (same i) ∙ h)), (λ above. same i ∙ (has q i e).1 above))

-- ---- one after the other

pub none_reached : (parents : Parents) (at : Numbers) (reached : List (List NumberSpan)) → reached ≡ [] → KeepsAncestors parents at reached
none_reached parents at reached none u i spans e f = none_some (sym (ap (λ (ss : List (List NumberSpan)). slice_get ss i) none) ∙ f)

pub reaches_next : (parents : Parents) (at : Numbers) (xs : List (Bor EntityUid)) (x : Bor EntityUid) (reached more : List (List NumberSpan)) (spans : List NumberSpan) (i : ℕ)
    → IsNumbering at (referenced xs) → i < length xs → x ≡ get_or xs i x → length reached ≡ i → more ≡ reached ++ spans ∷ [] → HasAncestors parents at x.now spans → KeepsAncestors parents at reached → KeepsAncestors parents at more
reaches_next parents at xs x reached more spans i numbering lt is len added has keeps u j found e f =
    elim (get_pushed reached spans found j (sym (ap (λ (ss : List (List NumberSpan)). slice_get ss j) added) ∙ f)) [
      | inl before ↦ keeps u j found e before
      | inr last ↦
          let here : slice_get (referenced xs) i ≡ Some u = subst (λ (k : ℕ). slice_get (referenced xs) k ≡ Some u) (last.0 ∙ len) (numbering u j e) in
          let same : x.now ≡ u = some_same x.now u (sym (name_at xs i x lt is) ∙ here) in
          subst (λ (v : EntityUid). HasAncestors parents at v found) same (subst (λ (ss : List NumberSpan). HasAncestors parents at x.now ss) last.1 has)
    ]

module _ (parents : Parents) (at : Numbers) (xs : List (Bor EntityUid)) (numbering : IsNumbering at (referenced xs)) (reached : List (List NumberSpan)) (i : ℕ) (len : length reached ≡ i) (whole : length xs ≤ i)
    (keeps : KeepsAncestors parents at reached) where
  is_at : (u q : EntityUid) (j k : ℕ) → at u ≡ Some j → at q ≡ Some k → (o : Option (List NumberSpan)) → slice_get reached j ≡ o → IsTrue (has_number_at o k) ↔ IsAncestor parents q u
  is_at u q j k e f None none =
      let lt = slice_get_within (referenced xs) j u (numbering u j e) in
      let names_length = length-map xs (λ (x : Bor EntityUid). x.now) in
      absurd (past reached j none (omega (arith, lt, names_length, len, whole)))
    where
      past : (ss : List (List NumberSpan)) (j : ℕ) → slice_get ss j ≡ None → j < length ss → ⊥
      past [] j n lt = omega (arith, lt)
      past (s ∷ ss) zero n lt = absurd cc
      past (s ∷ ss) (suc j) n lt = past ss j n (omega (arith, lt))
  is_at u q j k e f (Some spans) is = keeps u j spans e is q k f

  pub all_reached : AreAncestors parents at reached
  all_reached u q j k e f = is_at u q j k e f (slice_get reached j) refl

-- ---- loops

pub parents_step : (at : Numbers) (reached : List (List NumberSpan)) (ps : List EntityUid) (i : ℕ) (p : EntityUid) (old mid new : List NumberSpan) → i < length ps → p ≡ get_or ps i p
    → AddsParent at reached p old mid → AddsParents at reached (drop (i + 1) ps) mid new → AddsParents at reached (drop i ps) old new
parents_step at reached ps i p old mid new lt is one rest = subst (λ (qs : List EntityUid). AddsParents at reached qs old new) (sym (cut ps i p lt is)) (mid, one, rest)

pub parents_end : (at : Numbers) (reached : List (List NumberSpan)) (ps : List EntityUid) (i : ℕ) (spans : List NumberSpan) → length ps ≤ i → AddsParents at reached (drop i ps) spans spans
parents_end at reached ps i spans le = subst (λ (qs : List EntityUid). AddsParents at reached qs spans spans) (sym (drop_all i ps le)) refl

pub parents_begin : (at : Numbers) (reached : List (List NumberSpan)) (ps : List EntityUid) (first last : List NumberSpan) → first ≡ [] → AddsParents at reached ps first last → AddsParents at reached ps [] last
parents_begin at reached ps first last none h = subst (λ (ss : List NumberSpan). AddsParents at reached ps ss last) none h

pub singles_step : (at : Numbers) (xs : List (Bor EntityUid)) (i : ℕ) (x : Bor EntityUid) (old new : List NumberSpan) → i < length xs → x ≡ get_or xs i x → new ≡ old ++ single_of (at x.now)
    → old ++ singles at (referenced (drop i xs)) ≡ singles at (referenced xs) → new ++ singles at (referenced (drop (i + 1) xs)) ≡ singles at (referenced xs)
singles_step at xs i x old new lt is more before =
    let rest = singles at (referenced (drop (i + 1) xs)) in
    ap (λ (ss : List NumberSpan). ss ++ rest) more ∙ append_assoc old (single_of (at x.now)) rest
    ∙ sym (ap (λ (zs : List (Bor EntityUid)). old ++ singles at (referenced zs)) (cut xs i x lt is)) ∙ before

pub singles_end : (at : Numbers) (xs : List (Bor EntityUid)) (i : ℕ) (spans : List NumberSpan) → length xs ≤ i → spans ++ singles at (referenced (drop i xs)) ≡ singles at (referenced xs) → spans ≡ singles at (referenced xs)
singles_end at xs i spans le h = sym (append-nil spans) ∙ sym (ap (λ (zs : List (Bor EntityUid)). spans ++ singles at (referenced zs)) (drop_all i xs le)) ∙ h

pub names_step : (us : List EntityUid) (i : ℕ) (u : EntityUid) (b : Bor EntityUid) (old new : List (Bor EntityUid)) (whole : List EntityUid) → i < length us → u ≡ get_or us i u → b.now ≡ u → new ≡ old ++ b ∷ []
    → referenced old ++ drop i us ≡ whole → referenced new ++ drop (i + 1) us ≡ whole
names_step us i u b old new whole lt is same more before =
    ap (λ (xs : List EntityUid). xs ++ drop (i + 1) us) (names_pushed old new b more) ∙ append_assoc (referenced old) (b.now ∷ []) (drop (i + 1) us)
    ∙ ap (λ (x : EntityUid). referenced old ++ x ∷ drop (i + 1) us) same
    ∙ sym (ap (λ (xs : List EntityUid). referenced old ++ xs) (cut us i u lt is)) ∙ before

pub names_end : (us : List EntityUid) (i : ℕ) (found : List (Bor EntityUid)) (whole : List EntityUid) → length us ≤ i → referenced found ++ drop i us ≡ whole → referenced found ≡ whole
names_end us i found whole le h = sym (append-nil (referenced found)) ∙ sym (ap (λ (xs : List EntityUid). referenced found ++ xs) (drop_all i us le)) ∙ h

-- ---- entity types

module _ (parents : Parents) (es : List ResolvedEntityType) (at : Numbers) (t : TypeNumbers) (all : NumbersAll (type_points es) at) (are : AreAncestors parents at t.spans)
    (named : AreNames at (type_points es) t.numbers) where
  point : (u : EntityUid) (n : List ℕ) → Contains (type_points es) u → u.type_name ≡ n → u ≡ type_uid n
  point u n h e = let m = contains_map (λ (x : ResolvedEntityType). type_uid x.name) es u h in sym m.2 ∙ ap type_uid (ap (λ (v : EntityUid). v.type_name) m.2 ∙ e)

  number_at : (n : List ℕ) (i : ℕ) → get text_cmp t.numbers n ≡ Some i → at (type_uid n) ≡ Some i
  number_at n i e = elim (named.sound n i e) [
    | inl m ↦ ap at (sym (point m.0 n m.1 m.2.0)) ∙ m.2.1
    | inr none ↦ none_some none
  ]

  type_there : (e : ResolvedEntityType) → Contains es e → IsSome (get text_cmp t.numbers e.name)
  type_there e h =
      let here = inside es e h in
      named.all e.name (type_uid e.name, here, (refl, all (type_uid e.name) here))
    where
      inside : (xs : List ResolvedEntityType) (x : ResolvedEntityType) → Contains xs x → Contains (type_points xs) (type_uid x.name)
      inside [] x h = Contains-none x h
      inside (y ∷ ys) x h = elim (Contains-cases y ys x h) [
        | inl same ↦ subst (λ (z : ResolvedEntityType). Contains (type_uid z.name ∷ type_points ys) (type_uid x.name)) (sym same) (Contains-here (type_uid x.name) (type_points ys))
        | inr later ↦ Contains-there (type_uid y.name) (type_points ys) (type_uid x.name) (inside ys x later)
      ]

  pub types_numbered : AreNumbers parents es t
  types_numbered = record {
    exact = λ n q i j e f. are (type_uid n) (type_uid q) i j (number_at n i e) (number_at q j f);
    all = type_there;
  }

-- an entity without a number gives its type none
pub no_name : (at : Numbers) (u : EntityUid) (named : BTreeMap (List ℕ) ℕ) → at u ≡ None → AddsName at u named named
no_name at u named none = record {
  sound = λ n i e. inr e;
  all = λ n m. none_some (sym none ∙ (some_of (at u) m.1).1);
  kept = λ n h. h;
  also = tt;
}

pub has_spans : (reached : List (List NumberSpan)) (number : ℕ) (old mid new further slice : List NumberSpan) → slice_get reached number ≡ Some further → slice ≡ further → mid ≡ old ++ single number ∷ [] → new ≡ mid ++ slice
    → HasSpans reached number old new
has_spans reached number old mid new further slice is same one all = record {
  further = further;
  reaches = is;
  are = all ∙ ap (λ (ss : List NumberSpan). mid ++ ss) same ∙ ap (λ (ss : List NumberSpan). ss ++ further) one ∙ append_assoc old (single number ∷ []) further;
}
