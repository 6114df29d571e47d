-- Edges turned round: one child more.
use Rattle.std.proofs.Common.{◌≡◌, Bool, true, false, cond, List, [], ◌∷◌, ◌++◌, refl, ap, sym, subst, ◌∙◌, inl, inr}
use Rattle.std.proofs.Common.{Option, Some, None}
use Rattle.std.specs.Prelude.{Contains, ◌⊎◌, ◌↔◌, Vec}
use Rattle.std.specs.declared.alloc.Global.{Global}
use Rattle.std.specs.BTreeMap.{BTreeMap, Updates, get_by}
use Rattle.std.specs.Borrow.{Bor}
use Rattle.std.proofs.lemmas.List.Elements.{Contains-append_left, Contains-push, Contains-push_cases}
use Rattle.values.specs.declared.entity_uid.EntityUid.{EntityUid}
use Rattle.values.specs.Names.{uid_cmp}
use Rattle.ancestor_search.specs.Hierarchy.{Parents, referenced}
use Rattle.ancestor_search.specs.Decided.{is_same, HaveAllParents}
use Rattle.ancestor_search.specs.Deciding.{same_uid, same_self, Contains-none}
use Rattle.ancestor_search.specs.inner.Backwards.{referenced_or_none, children_of, AddsToChildren, AreChildrenAmong, AreChildren}

abbrev Kept : Type 0
Kept = BTreeMap (Bor EntityUid) (Vec (Bor EntityUid) Global)

cond_or : (b : Bool) (v : Vec (Bor EntityUid) Global) (o : Option (Vec (Bor EntityUid) Global)) →
    referenced_or_none (cond b (Some v) o) ≡ cond b (referenced v.items) (referenced_or_none o)
cond_or true v o = refl
cond_or false v o = refl

cond_none : (b : Bool) (o : Option (Vec (Bor EntityUid) Global)) → referenced_or_none (cond b None o) ≡ cond b [] (referenced_or_none o)
cond_none true o = refl
cond_none false o = refl

-- a list is taken out
pub children_of-out : (m n : Kept) (parent : Bor EntityUid) → Updates (λ x y. uid_cmp x.now y.now) m n parent None →
    (x : EntityUid) → children_of n x ≡ cond (is_same parent.now x) [] (children_of m x)
children_of-out m n parent out x =
    let at : Bor EntityUid = record { ref_ptr = (0, 0); now = x } in
    ap referenced_or_none (out.0 at) ∙ cond_none (is_same parent.now x) (get_by (λ k. uid_cmp x k.now) m)

-- a list is put in
pub children_of-put : (m n : Kept) (parent : Bor EntityUid) (v : Vec (Bor EntityUid) Global) →
    Updates (λ x y. uid_cmp x.now y.now) m n parent (Some v) →
    (x : EntityUid) → children_of n x ≡ cond (is_same parent.now x) (referenced v.items) (children_of m x)
children_of-put m n parent v put x =
    let at : Bor EntityUid = record { ref_ptr = (0, 0); now = x } in
    ap referenced_or_none (put.0 at) ∙ cond_or (is_same parent.now x) v (get_by (λ k. uid_cmp x k.now) m)

-- the list of a parent, taken out, and put in again with one child more
pub one_child_more : (k0 k1 k2 : EntityUid → List EntityUid) (parent child : EntityUid) (xs : List EntityUid) →
    ((x : EntityUid) → k1 x ≡ cond (is_same parent x) [] (k0 x)) → ((x : EntityUid) → k2 x ≡ cond (is_same parent x) xs (k1 x)) →
    xs ≡ k0 parent ++ child ∷ [] → (x : EntityUid) → k2 x ≡ cond (is_same parent x) (k0 x ++ child ∷ []) (k0 x)
one_child_more k0 k1 k2 parent child xs out put is x = at (is_same parent x) refl (out x) (put x)
  where
    at : (b : Bool) → is_same parent x ≡ b → k1 x ≡ cond b [] (k0 x) → k2 x ≡ cond b xs (k1 x) → k2 x ≡ cond b (k0 x ++ child ∷ []) (k0 x)
    at true same e f = f ∙ is ∙ ap (λ z. k0 z ++ child ∷ []) (same_uid parent x same)
    at false apart e f = f ∙ e

pub AddsToChildren-none : (y : EntityUid) (kids : EntityUid → List EntityUid) → AddsToChildren [] y kids kids
AddsToChildren-none y kids x z = (λ h. inl h, λ h. elim h [ inl t ↦ t | inr s ↦ Contains-none x s.0 ])

pub AddsToChildren-more : (ps : List EntityUid) (y p : EntityUid) (k0 k1 k2 : EntityUid → List EntityUid) → AddsToChildren ps y k0 k1 →
    ((x : EntityUid) → k2 x ≡ cond (is_same p x) (k1 x ++ y ∷ []) (k1 x)) → AddsToChildren (ps ++ p ∷ []) y k0 k2
AddsToChildren-more ps y p k0 k1 k2 a one x z = at (is_same p x) refl (one x)
  where
    old : Contains (k1 x) z → Contains (k0 x) z ⊎ (Contains (ps ++ p ∷ []) x × (y ≡ z))
    old h = elim ((a x z).0 h) [ inl t ↦ inl t | inr s ↦ inr (Contains-append_left ps _ x s.0, s.1) ]

    at : (b : Bool) → is_same p x ≡ b → k2 x ≡ cond b (k1 x ++ y ∷ []) (k1 x) →
        Contains (k2 x) z ↔ (Contains (k0 x) z ⊎ (Contains (ps ++ p ∷ []) x × (y ≡ z)))
    at true same e = rw e (
      λ h. elim (Contains-push_cases (k1 x) y z h) [
        | inl t ↦ old t
        | inr is ↦ inr (subst (λ w. Contains (ps ++ p ∷ []) w) (same_uid p x same) (Contains-push ps p), is)
      ],
      λ h. elim h [
        | inl t ↦ Contains-append_left (k1 x) _ z ((a x z).1 (inl t))
        | inr s ↦ subst (λ w. Contains (k1 x ++ y ∷ []) w) s.1 (Contains-push (k1 x) y)
      ],
    )
    at false apart e = rw e (
      old,
      λ h. elim h [
        | inl t ↦ (a x z).1 (inl t)
        | inr s ↦ elim (Contains-push_cases ps p x s.0) [
          | inl t ↦ (a x z).1 (inr (t, s.1))
          | inr is ↦ let yes : is_same p x ≡ true = subst (λ w. is_same p w ≡ true) is (same_self p) in cc (yes, apart)
        ]
      ],
    )

pub Among-none : (p : Parents) (kids : EntityUid → List EntityUid) → ((x : EntityUid) → kids x ≡ []) → AreChildrenAmong [] p kids
Among-none p kids none x y = (λ h. Contains-none y (subst (λ l. Contains l y) (none x) h), λ h. Contains-none y h.0)

pub Among-more : (us : List EntityUid) (u : EntityUid) (p : Parents) (k k' : EntityUid → List EntityUid) → AreChildrenAmong us p k →
    AddsToChildren (p u) u k k' → AreChildrenAmong (us ++ u ∷ []) p k'
Among-more us u p k k' a adds x y = (
  λ h. elim ((adds x y).0 h) [
    | inl t ↦ let s = (a x y).0 t in (Contains-append_left us _ y s.0, s.1)
    | inr s ↦ subst (λ w. Contains (us ++ u ∷ []) w × Contains (p w) x) s.1 (Contains-push us u, s.0)
  ],
  λ h. elim (Contains-push_cases us u y h.0) [
    | inl t ↦ (adds x y).1 (inl ((a x y).1 (t, h.1)))
    | inr same ↦ (adds x y).1 (inr (subst (λ w. Contains (p w) x) (sym same) h.1, same))
  ],
)

pub all_children : (us vs : List EntityUid) (p : Parents) (kids : EntityUid → List EntityUid) → us ≡ vs → HaveAllParents p vs →
    AreChildrenAmong us p kids → AreChildren p kids
all_children us vs p kids is all a x y = (λ h. ((a x y).0 h).1, λ h. (a x y).1 (rw is (all y x h), h))
