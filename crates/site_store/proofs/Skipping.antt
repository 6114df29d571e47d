-- Of two ascending lists of items with ids, one with some of the items of the other: the former is the latter without
-- the ids that it lacks.
use Rattle.std.proofs.Common.{◌≡◌, ◌∙◌, refl, sym, ap, subst, Bool, true, false, List, [], ◌∷◌, map, inl, inr, ◌||◌}
use Rattle.std.specs.Prelude.{ℕ, cond, ◌↔◌, Contains}
use Rattle.std.specs.List.{list_any, filter}
use Rattle.std.specs.List.Sorted.{IsStrictlySortedBy}
use Rattle.std.specs.Ordering.{is_eq}
use Rattle.std.specs.declared.cmp.Ordering.TheVariants.{Less, Equal}
use Rattle.std.specs.Cmp.{tied_itself, eq_by_cmp_equiv}
use Rattle.std.proofs.lemmas.List.Elements.{All-from_recursion, All-contains}
use Rattle.std.proofs.lemmas.Map.Views.{Contains-from_any, list_any-from_Contains, tells_apart}
use Rattle.values.specs.Names.{text_cmp, text_cmp-IsTotalOrder, text_cmp-IsAntisymmetric}
use Rattle.ancestor_closure.specs.ancestor_search.Deciding.{Contains-here, Contains-there, Contains-cases, Contains-none}

module _ {P : Type 0} (id : P → List ℕ) where
  abbrev pub Ascend : List P → Type 0
  Ascend ps = IsStrictlySortedBy text_cmp (map id ps)

  -- whether one of qs has this id
  abbrev pub has_id : List P → P → Bool
  has_id qs p = list_any (λ q. is_eq (text_cmp (id p) q)) (map id qs)

  mapped : (ps : List P) (p : P) → Contains ps p → Contains (map id ps) (id p)
  mapped [] p h = Contains-none p h
  mapped (x ∷ xs) p h = elim (Contains-cases x xs p h) [
    | inl e ↦ subst (λ z. Contains (map id (x ∷ xs)) z) (ap id e) (Contains-here (id x) (map id xs))
    | inr t ↦ Contains-there (id x) (map id xs) (id p) (mapped xs p t)
  ]

  rest_ascends : (x : P) (xs : List P) → Ascend (x ∷ xs) → Ascend xs
  unfolding IsStrictlySortedBy
  rest_ascends x xs h = h.1

  first_below : (x : P) (xs : List P) → Ascend (x ∷ xs) → (p : P) → Contains xs p → text_cmp (id x) (id p) ≡ Less
  unfolding IsStrictlySortedBy
  first_below x xs h p there =
      All-contains (λ z. text_cmp (id x) z ≡ Less) (map id xs) (id p)
      (All-from_recursion (λ z. text_cmp (id x) z ≡ Less) (map id xs) h.0) (mapped xs p there)

  not_below_itself : (a b : List ℕ) → a ≡ b → text_cmp a b ≡ Less → ⊥
  not_below_itself a b e less =
      let tied : text_cmp a a ≡ Equal = tied_itself text_cmp-IsTotalOrder a in
      let below : text_cmp a a ≡ Less = subst (λ z. text_cmp a z ≡ Less) (sym e) less in
      cc (tied, below)

  found : (qs : List P) (p q : P) → Contains qs q → id p ≡ id q → has_id qs p ≡ true
  found qs p q h e =
      list_any-from_Contains (eq_by_cmp_equiv text_cmp-IsTotalOrder) (id p) (map id qs)
      (subst (λ z. Contains (map id qs) z) (sym e) (mapped qs q h))

  at_id : (qs : List P) (x : List ℕ) → Contains (map id qs) x → (q : P) × Contains qs q × (id q ≡ x)
  at_id [] x h = Contains-none x h
  at_id (q ∷ qs) x h = elim (Contains-cases (id q) (map id qs) x h) [
    | inl e ↦ (q, Contains-here q qs, e)
    | inr t ↦ let (r, inside, is) = at_id qs x t in (r, Contains-there q qs r inside, is)
  ]

  of_id : (qs : List P) (p : P) → has_id qs p ≡ true → (q : P) × Contains qs q × (id q ≡ id p)
  of_id qs p h = at_id qs (id p) (Contains-from_any (tells_apart text_cmp-IsAntisymmetric) (id p) (map id qs) h)

  -- if no id of ps is in qs, the filter leaves nothing
  none_kept : (ps : List P) (qs : List P) → ((p : P) → Contains ps p → has_id qs p ≡ false) → filter (has_id qs) ps ≡ []
  none_kept [] qs h = refl
  none_kept (p ∷ ps) qs h =
      ap (λ b. cond b (p ∷ filter (has_id qs) ps) (filter (has_id qs) ps)) (h p (Contains-here p ps))
      ∙ none_kept ps qs (λ r t. h r (Contains-there p ps r t))

  -- an item of qs that is less than all of ps changes nothing for these
  same_kept : (ps : List P) (q : P) (qs : List P) → ((p : P) → Contains ps p → text_cmp (id q) (id p) ≡ Less)
      → filter (has_id (q ∷ qs)) ps ≡ filter (has_id qs) ps
  same_kept [] q qs h = refl
  same_kept (p ∷ ps) q qs h =
      let apart : is_eq (text_cmp (id p) (id q)) ≡ false = not_tied (id p) (id q) (is_eq (text_cmp (id p) (id q))) refl (h p (Contains-here p ps)) in
      let rest : filter (has_id (q ∷ qs)) ps ≡ filter (has_id qs) ps = same_kept ps q qs (λ r t. h r (Contains-there p ps r t)) in
      let test : has_id (q ∷ qs) p ≡ has_id qs p = ap (λ b. b || has_id qs p) apart in
      λ i. cond (test i) (p ∷ rest i) (rest i)
    where
      not_tied : (a b : List ℕ) (t : Bool) → is_eq (text_cmp a b) ≡ t → text_cmp b a ≡ Less → t ≡ false
      not_tied a b false e less = refl
      not_tied a b true e less = absurd (not_below_itself b a (sym (tells_apart text_cmp-IsAntisymmetric a b e)) less)

  module _ (p : P) (ps : List P) (q : P) (qs : List P) (h : Ascend (p ∷ ps)) (k : Ascend (q ∷ qs))
      (among : (r : P) → Contains (q ∷ qs) r → Contains (p ∷ ps) r) where
    -- the first items of both are the same
    both : ((r : P) → Contains qs r → Contains ps r) → p ≡ q → filter (has_id qs) ps ≡ qs
        → filter (has_id (q ∷ qs)) (p ∷ ps) ≡ q ∷ qs
    both within e rest =
        let yes : has_id (q ∷ qs) p ≡ true = found (q ∷ qs) p q (Contains-here q qs) (ap id e) in
        let below : (r : P) → Contains ps r → text_cmp (id q) (id r) ≡ Less =
        λ r t. subst (λ z. text_cmp (id z) (id r) ≡ Less) e (first_below p ps h r t) in
        ap (λ b. cond b (p ∷ filter (has_id (q ∷ qs)) ps) (filter (has_id (q ∷ qs)) ps)) yes
        ∙ ap (λ l. p ∷ l) (same_kept ps q qs below ∙ rest) ∙ ap (λ x. x ∷ qs) e

    within_rest : p ≡ q → (r : P) → Contains qs r → Contains ps r
    within_rest e r t = elim (Contains-cases p ps r (among r (Contains-there q qs r t))) [
      | inl same ↦ absurd (not_below_itself (id q) (id r) (ap id (sym e ∙ same)) (first_below q qs k r t))
      | inr u ↦ u
    ]

    before : text_cmp (id p) (id q) ≡ Less → (r : P) → Contains (q ∷ qs) r → id p ≡ id r → ⊥
    before less r u same = elim (Contains-cases q qs r u) [
      | inl e ↦ not_below_itself (id p) (id q) (same ∙ ap id (sym e)) less
      | inr v ↦ not_below_itself (id p) (id r) same
          (text_cmp-IsTotalOrder.trans (id p) (id q) (id r) less (first_below q qs k r v))
    ]

    not_there : text_cmp (id p) (id q) ≡ Less → (b : Bool) → has_id (q ∷ qs) p ≡ b → b ≡ false
    not_there less false e = refl
    not_there less true e = let (r, u, same) = of_id (q ∷ qs) p e in absurd (before less r u (sym same))

    -- the first item of ps is not in qs
    later : text_cmp (id p) (id q) ≡ Less → filter (has_id (q ∷ qs)) ps ≡ q ∷ qs
        → filter (has_id (q ∷ qs)) (p ∷ ps) ≡ q ∷ qs
    later less rest =
        ap (λ b. cond b (p ∷ filter (has_id (q ∷ qs)) ps) (filter (has_id (q ∷ qs)) ps))
        (not_there less (has_id (q ∷ qs) p) refl) ∙ rest

    within_ps : text_cmp (id p) (id q) ≡ Less → (r : P) → Contains (q ∷ qs) r → Contains ps r
    within_ps less r u = elim (Contains-cases p ps r (among r u)) [
      | inl same ↦ absurd (before less r u (ap id same))
      | inr v ↦ v
    ]

  pub kept_are : (ps qs : List P) → Ascend ps → Ascend qs → ((q : P) → Contains qs q → Contains ps q) → filter (has_id qs) ps ≡ qs
  kept_are ps [] h k among = none_kept ps [] (λ p t. refl)
  kept_are [] (q ∷ qs) h k among = Contains-none q (among q (Contains-here q qs))
  kept_are (p ∷ ps) (q ∷ qs) h k among = elim (Contains-cases p ps q (among q (Contains-here q qs))) [
    | inl e ↦
        let within = within_rest p ps q qs h k among e in
        both p ps q qs h k among within e (kept_are ps qs (rest_ascends p ps h) (rest_ascends q qs k) within)
    | inr t ↦
        let less : text_cmp (id p) (id q) ≡ Less = first_below p ps h q t in
        later p ps q qs h k among less (kept_are ps (q ∷ qs) (rest_ascends p ps h) k (within_ps p ps q qs h k among less))
  ]

  -- what does not depend on the items that are not true is the same over ps and qs
  pub skipping : (Says : List P → Type 0) (IsTrueOf : P → Type 0)
      → ((ps : List P) (kept : P → Bool) → ((p : P) → Contains ps p → kept p ≡ false → IsTrueOf p → ⊥) → Says ps ↔ Says (filter kept ps))
      → (ps qs : List P) → Ascend ps → Ascend qs → ((q : P) → Contains qs q → Contains ps q)
      → ((p : P) → Contains ps p → IsTrueOf p → Contains qs p) → Says ps ↔ Says qs
  skipping Says IsTrueOf leaves ps qs h k among all =
      let same = leaves ps (has_id qs) (λ p inside no t. let yes = found qs p p (all p inside t) refl in cc (yes, no)) in
      subst (λ l. Says ps ↔ Says l) (kept_are ps qs h k among) same
