-- The actions above one are those of the actions whose numbers stand among those above it.
use Rattle.std.proofs.Common.{◌≡◌, ◌∙◌, Bool, true, false, cond, List, [], ◌∷◌, Option, Some, None, refl, sym, ap}
use Rattle.std.proofs.Common.{subst, inl, inr}
use Rattle.std.specs.Prelude.{Contains, IsTrue, IsSome, ◌↔◌, ◌&&◌, filter, option_map, is_some}
use Rattle.values.specs.declared.entity_uid.EntityUid.{EntityUid}
use Rattle.ancestor_search.specs.Deciding.{Contains-here, Contains-there, Contains-cases, Contains-none}
use Rattle.schema.specs.SchemaEntries.{SchemaEntries}
use Rattle.schema.specs.Schemas.{ActionHasAncestor}
use Rattle.schema.specs.Views.{schema_view, parents_at, action_has_ancestor, ancestors_among}

-- ---- those that pass a test

module _ {A : Type 0} (p : A → Bool) where
  passes_at : (x : A) (xs ys : List A) (q : A) → (Contains ys q → Contains xs q × (p q ≡ true)) → (b : Bool) → p x ≡ b
      → Contains (cond b (x ∷ ys) ys) q → Contains (x ∷ xs) q × (p q ≡ true)
  passes_at x xs ys q rest true e h = elim (Contains-cases x ys q h) [
    | inl same ↦ (subst (λ (z : A). Contains (x ∷ xs) z) same (Contains-here x xs), subst (λ (z : A). p z ≡ true) same e)
    | inr later ↦ let r = rest later in (Contains-there x xs q r.0, r.1)
  ]
  passes_at x xs ys q rest false e h = let r = rest h in (Contains-there x xs q r.0, r.1)

  pub passes : (xs : List A) (q : A) → Contains (filter p xs) q → Contains xs q × (p q ≡ true)
  passes [] q h = Contains-none q h
  passes (x ∷ xs) q h = passes_at x xs (filter p xs) q (passes xs q) (p x) refl h

  stays_at : (x : A) (xs ys : List A) (q : A) → (Contains xs q → Contains ys q) → p q ≡ true → (b : Bool) → p x ≡ b
      → Contains (x ∷ xs) q → Contains (cond b (x ∷ ys) ys) q
  stays_at x xs ys q rest ok true e h = elim (Contains-cases x xs q h) [
    | inl same ↦ subst (λ (z : A). Contains (x ∷ ys) z) same (Contains-here x ys)
    | inr later ↦ Contains-there x ys q (rest later)
  ]
  stays_at x xs ys q rest ok false e h = elim (Contains-cases x xs q h) [
    | inl same ↦ let wrong : true ≡ false = sym ok ∙ sym (ap p same) ∙ e in absurd cc
    | inr later ↦ rest later
  ]

  pub stays : (xs : List A) (q : A) → Contains xs q → p q ≡ true → Contains (filter p xs) q
  stays [] q h ok = Contains-none q h
  stays (x ∷ xs) q h ok = stays_at x xs (filter p xs) q (λ t. stays xs q t ok) ok (p x) refl h

-- ---- whether an action is above another

both : (x y : Bool) → (x && y) ≡ true → (x ≡ true) × (y ≡ true)
both true y h = (refl, h)
both false y h = absurd cc

not_both : {G : Type 0} (x y : Bool) → (x && y) ≡ false → x ≡ true → y ≡ true → G
not_both true y h e f = let wrong : false ≡ true = sym h ∙ f in absurd cc
not_both false y h e f = absurd cc

mapped : {A B : Type 0} (y : B) (o : Option A) → is_some o ≡ true → option_map (λ x. y) o ≡ Some y
mapped y (Some x) h = refl
mapped y None h = absurd cc

mapped_from : {A B : Type 0} (y z : B) (o : Option A) → option_map (λ x. y) o ≡ Some z → (is_some o ≡ true) × (y ≡ z)
mapped_from y z (Some x) e = (refl, cc)
mapped_from y z None e = absurd cc

module _ (k : SchemaEntries) (listed : (w : EntityUid) → Contains k.actions w ↔ IsSome (parents_at k.member_of w)) (u above : EntityUid) where
  abbrev test : EntityUid → Bool
  test w = action_has_ancestor k.action_numbers k.action_ancestor_spans u w

  abbrev those : List EntityUid
  those = ancestors_among k.actions k.action_numbers k.action_ancestor_spans u

  abbrev are_both : Bool
  are_both = is_some (parents_at k.member_of u) && is_some (parents_at k.member_of above)

  above_from : ActionHasAncestor (schema_view k) u above → (is_some (parents_at k.member_of u) ≡ true) × (is_some (parents_at k.member_of above) ≡ true) × (test above ≡ true)
  above_from (us, e, c) =
      let at = mapped_from those us (parents_at k.member_of u) e in
      let found = passes test k.actions above (subst (λ (xs : List EntityUid). Contains xs above) (sym at.1) c) in
      (at.0, (listed above).0 found.0, found.1)

  pub told_by_numbers : are_both ≡ true → IsTrue (test above) ↔ ActionHasAncestor (schema_view k) u above
  told_by_numbers h =
      let parts = both _ _ h in (
        (λ yes. (those, mapped those (parents_at k.member_of u) parts.0, stays test k.actions above ((listed above).1 parts.1) yes)),
        (λ is. (above_from is).2),
      )

  pub none_above : are_both ≡ false → IsTrue false ↔ ActionHasAncestor (schema_view k) u above
  none_above h = ((λ no. absurd cc), (λ is. let x = above_from is in not_both _ _ h x.0 x.1))
