-- One entry of what is kept is written, or taken out.
use Rattle.std.proofs.Common.{◌≡◌, ◌∙◌, Bool, true, false, cond, List, [], ◌∷◌, refl, ap, sym, subst, Option, Some, None, inl, inr}
use Rattle.std.specs.Prelude.{Contains, ◌⊎◌, IsSome}
use Rattle.std.specs.List.{list_any}
use Rattle.std.specs.Cmp.{eq_by_cmp_equiv}
use Rattle.std.proofs.lemmas.Map.Views.{Contains-from_any, list_any-from_Contains, tells_apart}
use Rattle.std.specs.BTreeMap.{BTreeMap, get}
use Rattle.values.specs.declared.entity_uid.EntityUid.{EntityUid}
use Rattle.values.specs.Names.{uid_cmp, uid_cmp-IsTotalOrder, uid_cmp-IsAntisymmetric}
use Rattle.ancestor_search.specs.Decided.{is_same}
use Rattle.ancestor_search.specs.Deciding.{same_uid, same_self, Contains-here, Contains-cases, Contains-none}
use Rattle.ancestor_closure.specs.Lists.{ancestors_or_none, children_or_none, ancestors_in, children_in}
use Rattle.ancestor_closure.specs.declared.relatives.Relatives.{Relatives}
use Rattle.ancestor_closure.specs.Lists.{SameLists, SameChildren, HasEntry, KeepEntries, AddsChild}
use Rattle.ancestor_closure.specs.inner.OneChange.{TakesChild}
use Rattle.ancestor_closure.proofs.Paths.{differ}

lists-cond : (b : Bool) (r : Relatives) (o : Option Relatives) → ancestors_or_none (cond b (Some r) o) ≡ cond b r.ancestors.items (ancestors_or_none o)
lists-cond true r o = refl
lists-cond false r o = refl

children-cond : (b : Bool) (r : Relatives) (o : Option Relatives) → children_or_none (cond b (Some r) o) ≡ cond b r.children.keys (children_or_none o)
children-cond true r o = refl
children-cond false r o = refl

some-cond : (b : Bool) (r : Relatives) (o : Option Relatives) → IsSome o → IsSome (cond b (Some r) o)
some-cond true r o h = refl
some-cond false r o h = h

no-lists-cond : (b : Bool) (o : Option Relatives) → ancestors_or_none (cond b None o) ≡ cond b [] (ancestors_or_none o)
no-lists-cond true o = refl
no-lists-cond false o = refl

no-children-cond : (b : Bool) (o : Option Relatives) → children_or_none (cond b None o) ≡ cond b [] (children_or_none o)
no-children-cond true o = refl
no-children-cond false o = refl

-- writing what is there already
keep : (k : EntityUid) (f : EntityUid → List EntityUid) (l : List EntityUid) → l ≡ f k → (q : EntityUid) → cond (is_same k q) l (f q) ≡ f q
keep k f l is q = by (is_same k q) refl
  where
    by : (b : Bool) → is_same k q ≡ b → cond b l (f q) ≡ f q
    by true same = is ∙ ap f (same_uid k q same)
    by false apart = refl

module _ (m n : BTreeMap EntityUid Relatives) (k : EntityUid) (r : Relatives)
    (at : (u : EntityUid) → get uid_cmp n u ≡ cond (is_same k u) (Some r) (get uid_cmp m u)) where
  pub lists_at : (q : EntityUid) → ancestors_in n q ≡ cond (is_same k q) r.ancestors.items (ancestors_in m q)
  lists_at q = ap ancestors_or_none (at q) ∙ lists-cond (is_same k q) r (get uid_cmp m q)

  children_at : (q : EntityUid) → children_in n q ≡ cond (is_same k q) r.children.keys (children_in m q)
  children_at q = ap children_or_none (at q) ∙ children-cond (is_same k q) r (get uid_cmp m q)

  pub stay : KeepEntries m n
  stay q h = subst (λ o. IsSome o) (sym (at q)) (some-cond (is_same k q) r (get uid_cmp m q) h)

  pub there : HasEntry n k
  there = subst (λ o. IsSome o) (sym (at k ∙ ap (λ b. cond b (Some r) (get uid_cmp m k)) (same_self k))) refl

  pub same_lists : r.ancestors.items ≡ ancestors_in m k → SameLists m n
  same_lists is q = lists_at q ∙ keep k (ancestors_in m) r.ancestors.items is q

  pub same_children : r.children.keys ≡ children_in m k → SameChildren m n
  same_children is q = children_at q ∙ keep k (children_in m) r.children.keys is q

  -- the children at the key and elsewhere
  by_key : (x : EntityUid) (P : List EntityUid → Type 0) → (k ≡ x → P r.children.keys) → ((k ≡ x → ⊥) → P (children_in m x)) → P (children_in n x)
  by_key x P here away = subst P (sym (children_at x)) (by (is_same k x) refl)
    where
      by : (b : Bool) → is_same k x ≡ b → P (cond b r.children.keys (children_in m x))
      by true same = here (same_uid k x same)
      by false apart = away (differ k x apart)

  pub child_there : (y : EntityUid) → Contains r.children.keys y → Contains (children_in n k) y
  child_there y h = by_key k (λ l. Contains l y) (λ _. h) (λ ne. absurd (ne refl))

  pub adds : (c : EntityUid) → ((y : EntityUid) → Contains (children_in m k) y → Contains r.children.keys y)
      → ((y : EntityUid) → Contains r.children.keys y → Contains (children_in m k) y ⊎ (c ≡ y)) → AddsChild (k ∷ []) c (children_in m) (children_in n)
  adds c more was = record {
    kept = λ x y h. by_key x (λ l. Contains l y) (λ e. more y (subst (λ z. Contains (children_in m z) y) (sym e) h)) (λ _. h);
    from = λ x y. by_key x (λ l. Contains l y → Contains (children_in m x) y ⊎ (Contains (k ∷ []) x × (c ≡ y)))
        (λ e h. elim (was y h) [
          | inl t ↦ inl (subst (λ z. Contains (children_in m z) y) e t)
          | inr same ↦ inr (subst (λ z. Contains (k ∷ []) z) e (Contains-here k []), same)
        ])
        (λ _ h. inl h);
  }

  pub takes : (c : EntityUid) → ((y : EntityUid) → Contains (children_in m k) y → Contains r.children.keys y ⊎ (c ≡ y))
      → ((y : EntityUid) → Contains r.children.keys y → Contains (children_in m k) y) → (Contains r.children.keys c → ⊥)
      → TakesChild (k ∷ []) [] c (children_in m) (children_in n)
  takes c less was gone = record {
    from = λ x y. by_key x (λ l. Contains l y → Contains (children_in m x) y) (λ e h. subst (λ z. Contains (children_in m z) y) e (was y h)) (λ _ h. h);
    kept = λ x y h. by_key x (λ l. Contains l y ⊎ ((c ≡ y) × Contains (k ∷ []) x × (Contains [] x → ⊥)))
        (λ e. elim (less y (subst (λ z. Contains (children_in m z) y) (sym e) h)) [
          | inl t ↦ inl t
          | inr same ↦ inr (same, subst (λ z. Contains (k ∷ []) z) e (Contains-here k []), λ none. Contains-none x none)
        ])
        (λ _. inl h);
    taken = λ x one not. by_key x (λ l. Contains l c → ⊥) (λ _. gone) (λ ne. absurd (ne (only x one)));
  }
    where
      only : (x : EntityUid) → Contains (k ∷ []) x → k ≡ x
      only x h = elim (Contains-cases k [] x h) [ inl e ↦ e | inr t ↦ Contains-none x t ]

-- nothing changes
pub takes_none : (k c : EntityUid) (before after : EntityUid → List EntityUid) → before k ≡ [] → ((q : EntityUid) → after q ≡ before q) → TakesChild (k ∷ []) [] c before after
takes_none k c before after none same = record {
  from = λ x y h. subst (λ l. Contains l y) (same x) h;
  kept = λ x y h. inl (subst (λ l. Contains l y) (sym (same x)) h);
  taken = λ x one not h. elim (Contains-cases k [] x one) [
    | inl e ↦ Contains-none c (subst (λ l. Contains l c) (same x ∙ ap before (sym e) ∙ none) h)
    | inr t ↦ Contains-none x t
  ];
}

module _ (m n : BTreeMap EntityUid Relatives) (k : EntityUid)
    (at : (u : EntityUid) → get uid_cmp n u ≡ cond (is_same k u) None (get uid_cmp m u)) where
  pub gone_lists : ancestors_in m k ≡ [] → SameLists m n
  gone_lists none q = ap ancestors_or_none (at q) ∙ no-lists-cond (is_same k q) (get uid_cmp m q) ∙ keep k (ancestors_in m) [] (sym none) q

  pub gone_children : children_in m k ≡ [] → SameChildren m n
  gone_children none q = ap children_or_none (at q) ∙ no-children-cond (is_same k q) (get uid_cmp m q) ∙ keep k (children_in m) [] (sym none) q

-- ---- a member of a set is taken out
module _ (ys zs : List EntityUid) (c : EntityUid) (at : (q : EntityUid) → list_any (is_same q) zs ≡ cond (is_same c q) false (list_any (is_same q) ys)) where
  pub member_kept : (y : EntityUid) → Contains ys y → Contains zs y ⊎ (c ≡ y)
  member_kept y h = by (is_same c y) refl (at y)
    where
      by : (b : Bool) → is_same c y ≡ b → list_any (is_same y) zs ≡ cond b false (list_any (is_same y) ys) → Contains zs y ⊎ (c ≡ y)
      by true same e = inr (same_uid c y same)
      by false apart e = inl (Contains-from_any (tells_apart uid_cmp-IsAntisymmetric) y zs (e ∙ list_any-from_Contains (eq_by_cmp_equiv uid_cmp-IsTotalOrder) y ys h))

  pub member_from : (y : EntityUid) → Contains zs y → Contains ys y
  member_from y h = by (is_same c y) (at y)
    where
      has : list_any (is_same y) zs ≡ true
      has = list_any-from_Contains (eq_by_cmp_equiv uid_cmp-IsTotalOrder) y zs h

      by : (b : Bool) → list_any (is_same y) zs ≡ cond b false (list_any (is_same y) ys) → Contains ys y
      by true e = cc (e, has)
      by false e = Contains-from_any (tells_apart uid_cmp-IsAntisymmetric) y ys (sym e ∙ has)

  pub member_gone : Contains zs c → ⊥
  member_gone h =
      let has : list_any (is_same c) zs ≡ true = list_any-from_Contains (eq_by_cmp_equiv uid_cmp-IsTotalOrder) c zs h in
      let not : list_any (is_same c) zs ≡ false = at c ∙ ap (λ b. cond b false (list_any (is_same c) ys)) (same_self c) in
      cc (has, not)

-- something is kept of an entity that has an ancestor
pub is_there : (m : BTreeMap EntityUid Relatives) (q a : EntityUid) → Contains (ancestors_in m q) a → HasEntry m q
is_there m q a h = at (get uid_cmp m q) h
  where
    at : (o : Option Relatives) → Contains (ancestors_or_none o) a → IsSome o
    at None t = Contains-none a t
    at (Some r) t = refl

-- something is kept of it, and nothing
pub none_there : {A : Type 0} (m : BTreeMap EntityUid Relatives) (k : EntityUid) → get uid_cmp m k ≡ None → HasEntry m k → A
none_there m k none there = absurd (at (get uid_cmp m k) none there)
  where
    at : (o : Option Relatives) → o ≡ None → IsSome o → ⊥
    at None e h = cc h
    at (Some r) e h = cc e
