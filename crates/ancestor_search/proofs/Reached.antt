-- One entity more that a search comes to, and one level's steps after one another.
use Rattle.std.proofs.Common.{◌≡◌, ℕ, ◌+◌, Bool, true, false, cond, List, [], ◌∷◌, ◌++◌, length, refl, ap, sym, subst}
use Rattle.std.proofs.Common.{◌∙◌, inl, inr, arith, Option, Some, None, IsSome, ◌||◌, length-append}
use Rattle.std.specs.Prelude.{Contains}
use Rattle.std.specs.List.{list_any}
use Rattle.std.specs.Option.{option_or}
use Rattle.std.specs.BTreeMap.{BTreeMap, Updates}
use Rattle.std.specs.Borrow.{Bor}
use Rattle.std.proofs.lemmas.List.Elements.{Contains-append_left, Contains-push, Contains-push_cases}
use Rattle.values.specs.declared.entity_uid.EntityUid.{EntityUid}
use Rattle.values.specs.Names.{uid_cmp}
use Rattle.ancestor_search.specs.Decided.{is_same}
use Rattle.ancestor_search.specs.Deciding.{same_uid, same_self}
use Rattle.ancestor_search.specs.inner.Backwards.{Reaches, dist_of, is_one_of, is_child_of}

-- a test of one item more
pub any_push : {X : Type 0} (test : X → Bool) (xs : List X) (x : X) → list_any test (xs ++ x ∷ []) ≡ (list_any test xs || test x)
any_push test [] x = at (test x)
  where
    at : (b : Bool) → (b || false) ≡ b
    at true = refl
    at false = refl
any_push test (y ∷ ys) x = ap (λ b. test y || b) (any_push test ys x) ∙ at (test y)
  where
    at : (b : Bool) → (b || (list_any test ys || test x)) ≡ ((b || list_any test ys) || test x)
    at true = refl
    at false = refl

or_both : (o : Option ℕ) (a b : Bool) (far : ℕ) →
    option_or (option_or o (cond a (Some far) None)) (cond b (Some far) None) ≡ option_or o (cond (a || b) (Some far) None)
or_both (Some d) a b far = refl
or_both None true b far = refl
or_both None false b far = refl

or_none : (o : Option ℕ) → o ≡ option_or o None
or_none (Some d) = refl
or_none None = refl

-- nothing was come to
pub Reaches-none : (far : ℕ) (dist : EntityUid → Option ℕ) (level : List EntityUid) (n : ℕ) → Reaches (λ x. false) far dist dist level level n n
Reaches-none far dist level n = record { each = λ x. or_none (dist x); front = λ h. h; count = refl }

-- the same test
pub Reaches-same : (t u : EntityUid → Bool) (far : ℕ) (d d' : EntityUid → Option ℕ) (l l' : List EntityUid) (n n' : ℕ) →
    ((x : EntityUid) → t x ≡ u x) → Reaches t far d d' l l' n n' → Reaches u far d d' l l' n n'
Reaches-same t u far d d' l l' n n' same r = record {
  each = λ x. r.each x ∙ ap (λ b. option_or (d x) (cond b (Some far) None)) (same x);
  front = r.front;
  count = r.count;
}

-- one after the other
pub Reaches-then : (t u : EntityUid → Bool) (far : ℕ) (d0 d1 d2 : EntityUid → Option ℕ) (l0 l1 l2 : List EntityUid) (n0 n1 n2 : ℕ) →
    Reaches t far d0 d1 l0 l1 n0 n1 → Reaches u far d1 d2 l1 l2 n1 n2 → Reaches (λ x. t x || u x) far d0 d2 l0 l2 n0 n2
Reaches-then t u far d0 d1 d2 l0 l1 l2 n0 n1 n2 r s = record {
  each = λ x. s.each x ∙ ap (λ o. option_or o (cond (u x) (Some far) None)) (r.each x) ∙ or_both (d0 x) (t x) (u x) far;
  front = λ h. s.front (r.front h);
  count = omega (arith, r.count, s.count);
}

-- what a map from references has at a name, after one more
pub dist_of-insert : (m n : BTreeMap (Bor EntityUid) ℕ) (k : Bor EntityUid) (v : ℕ) → Updates (λ x y. uid_cmp x.now y.now) m n k (Some v) →
    (x : EntityUid) → dist_of n x ≡ cond (is_same k.now x) (Some v) (dist_of m x)
dist_of-insert m n k v u x = u.0 (record { ref_ptr = (0, 0); now = x })

module _ (far : ℕ) (dist : EntityUid → Option ℕ) (level : List EntityUid) (n : ℕ) (c : EntityUid) where
  -- it was come to before
  pub Reaches-skip : IsSome (dist c) → Reaches (λ x. is_same c x) far dist dist level level n n
  Reaches-skip known = record { each = λ x. at x (is_same c x) refl; front = λ h. h; count = refl }
    where
      stays : (o : Option ℕ) → IsSome o → o ≡ option_or o (Some far)
      stays (Some d) h = refl
      stays None h = cc h

      at : (x : EntityUid) (b : Bool) → is_same c x ≡ b → dist x ≡ option_or (dist x) (cond b (Some far) None)
      at x true e = stays (dist x) (subst (λ z. IsSome (dist z)) (same_uid c x e) known)
      at x false e = or_none (dist x)

  module _ (dist' : EntityUid → Option ℕ) (none : dist c ≡ None)
      (one : (x : EntityUid) → dist' x ≡ cond (is_same c x) (Some far) (dist x)) where
    each_at : (x : EntityUid) (b : Bool) → is_same c x ≡ b → dist' x ≡ cond b (Some far) (dist x) →
        dist' x ≡ option_or (dist x) (cond b (Some far) None)
    each_at x true e f = f ∙ sym (ap (λ o. option_or o (Some far)) (subst (λ z. dist z ≡ None) (same_uid c x e) none))
    each_at x false e f = f ∙ or_none (dist x)

    at_c : dist' c ≡ Some far
    at_c = one c ∙ ap (λ b. cond b (Some far) (dist c)) (same_self c)

    kept : (x : EntityUid) (b : Bool) → dist x ≡ Some far → dist' x ≡ cond b (Some far) (dist x) → dist' x ≡ Some far
    kept x true e f = f
    kept x false e f = f ∙ e

    from : (x : EntityUid) (b : Bool) → is_same c x ≡ b → dist' x ≡ cond b (Some far) (dist x) → dist' x ≡ Some far →
        ((dist x ≡ Some far) → Contains (level ++ c ∷ []) x) → Contains (level ++ c ∷ []) x
    from x true e f g old = subst (λ z. Contains (level ++ c ∷ []) z) (same_uid c x e) (Contains-push level c)
    from x false e f g old = old (sym f ∙ g)

    -- it was not come to before
    pub Reaches-take : Reaches (λ x. is_same c x) far dist dist' level (level ++ c ∷ []) n (n + 1)
    Reaches-take = record {
      each = λ x. each_at x (is_same c x) refl (one x);
      front = λ h x. (
        λ there. elim (Contains-push_cases level c x there) [
          | inl t ↦ kept x (is_same c x) ((h x).0 t) (one x)
          | inr same ↦ subst (λ z. dist' z ≡ Some far) same at_c
        ],
        λ e. from x (is_same c x) refl (one x) e (λ f. Contains-append_left level _ x ((h x).1 f)),
      );
      count = let longer : length (level ++ c ∷ []) ≡ length level + 1 = rw length-append refl in omega (arith, longer);
    }

module _ (xs : List EntityUid) (far : ℕ) (d0 d1 : EntityUid → Option ℕ) (l0 l1 : List EntityUid) (n0 n1 : ℕ) (u : EntityUid)
    (r : Reaches (is_one_of xs) far d0 d1 l0 l1 n0 n1) where
  -- one item more, which was come to before
  pub Reaches-seen : IsSome (d1 u) → Reaches (is_one_of (xs ++ u ∷ [])) far d0 d1 l0 l1 n0 n1
  Reaches-seen known =
      Reaches-same _ _ far d0 d1 l0 l1 n0 n1 (λ x. sym (any_push (λ k. is_same k x) xs u))
      (Reaches-then (is_one_of xs) (λ x. is_same u x) far d0 d1 d1 l0 l1 l1 n0 n1 n1 r (Reaches-skip far d1 l1 n1 u known))

  -- one item more, which was not
  pub Reaches-new : (d2 : EntityUid → Option ℕ) (l2 : List EntityUid) (n2 : ℕ) → d1 u ≡ None →
      ((x : EntityUid) → d2 x ≡ cond (is_same u x) (Some far) (d1 x)) → l2 ≡ l1 ++ u ∷ [] → n2 ≡ n1 + 1 →
      Reaches (is_one_of (xs ++ u ∷ [])) far d0 d2 l0 l2 n0 n2
  Reaches-new d2 l2 n2 none one longer more =
      let taken : Reaches (λ x. is_same u x) far d1 d2 l1 l2 n1 n2 = rw (longer, more) (Reaches-take far d1 l1 n1 u d2 none one) in
      Reaches-same _ _ far d0 d2 l0 l2 n0 n2 (λ x. sym (any_push (λ k. is_same k x) xs u))
      (Reaches-then (is_one_of xs) (λ x. is_same u x) far d0 d1 d2 l0 l1 l2 n0 n1 n2 r taken)

-- the children of one entity more
pub Reaches-children : (kids : EntityUid → List EntityUid) (ys : List EntityUid) (y : EntityUid) (far : ℕ) (d0 d1 d2 : EntityUid → Option ℕ)
    (l0 l1 l2 : List EntityUid) (n0 n1 n2 : ℕ) → Reaches (is_child_of kids ys) far d0 d1 l0 l1 n0 n1 →
    Reaches (is_one_of (kids y)) far d1 d2 l1 l2 n1 n2 → Reaches (is_child_of kids (ys ++ y ∷ [])) far d0 d2 l0 l2 n0 n2
Reaches-children kids ys y far d0 d1 d2 l0 l1 l2 n0 n1 n2 r s =
    Reaches-same _ _ far d0 d2 l0 l2 n0 n2 (λ x. sym (any_push (λ z. is_one_of (kids z) x) ys y))
    (Reaches-then (is_child_of kids ys) (is_one_of (kids y)) far d0 d1 d2 l0 l1 l2 n0 n1 n2 r s)
