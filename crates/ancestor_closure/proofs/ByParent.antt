-- An entity with one parent and no descendant: its ancestors, by the list of its parent.
use Rattle.std.proofs.Common.{◌≡◌, ◌∙◌, ℕ, refl, ap, sym, subst, Bool, true, false, List, [], ◌∷◌, ◌++◌, length, inl, inr, arith, append_assoc}
use Rattle.std.specs.Prelude.{Contains, ◌⊎◌, ◌↔◌}
use Rattle.std.specs.List.{AllByRecursion}
use Rattle.std.specs.List.Sorted.{IsStrictlySortedBy}
use Rattle.std.specs.BTreeSet.{insert_key}
use Rattle.std.specs.Ordering.{match_ordering, ordering_reverse}
use Rattle.std.specs.declared.cmp.Ordering.{Ordering}
use Rattle.std.specs.declared.cmp.Ordering.TheVariants.{Less, Equal, Greater}
use Rattle.values.specs.declared.entity_uid.EntityUid.{EntityUid}
use Rattle.values.specs.Names.{uid_cmp, uid_cmp-IsTotalOrder, uid_cmp-IsAntisymmetric}
use Rattle.ancestor_search.specs.Hierarchy.{Parents, Path, IsAncestor, IsAscending}
use Rattle.ancestor_search.specs.Deciding.{Contains-here, Contains-cases, Contains-none}
use Rattle.ancestor_search.proofs.Members.{insert_key-kept, insert_key-from, insert_key-here}
use Rattle.ancestor_closure.specs.Lists.{IsListOf}
use Rattle.ancestor_closure.specs.inner.OneChange.{AreListsBut}
use Rattle.ancestor_closure.specs.inner.Placing.{left_of}
use Rattle.ancestor_closure.proofs.Paths.{IsListOf-kept, IsAncestor-turned}

-- ---- one at its place

all_placed : (P : EntityUid → Type 0) (x : EntityUid) (ys : List EntityUid) → P x → AllByRecursion P ys → AllByRecursion P (insert_key uid_cmp ys x)
all_placed P x [] p a = (p, a)
all_placed P x (y ∷ ys) p a = elim (uid_cmp x y) as (λ o. AllByRecursion P (match_ordering o (x ∷ y ∷ ys) (y ∷ ys) (y ∷ insert_key uid_cmp ys x))) [
  | Less ↦ (p, a)
  | Equal ↦ a
  | Greater ↦ (a.0, all_placed P x ys p a.1)
]

all_above : (x y : EntityUid) (ys : List EntityUid) → uid_cmp x y ≡ Less → AllByRecursion (λ z. uid_cmp y z ≡ Less) ys → AllByRecursion (λ z. uid_cmp x z ≡ Less) ys
all_above x y [] l a = a
all_above x y (z ∷ ys) l a = (uid_cmp-IsTotalOrder.trans x y z l a.0, all_above x y ys l a.1)

insert_key-ascends : (ys : List EntityUid) (x : EntityUid) → IsAscending ys → IsAscending (insert_key uid_cmp ys x)
unfolding IsStrictlySortedBy
insert_key-ascends [] x s = (tt, tt)
insert_key-ascends (y ∷ ys) x s = elim (uid_cmp x y) as (λ o. uid_cmp x y ≡ o → IsStrictlySortedBy uid_cmp (match_ordering o (x ∷ y ∷ ys) (y ∷ ys) (y ∷ insert_key uid_cmp ys x))) [
  | Less ↦ λ e. ((e, all_above x y ys e s.0), s)
  | Equal ↦ λ e. s
  | Greater ↦ λ e. (all_placed (λ z. uid_cmp y z ≡ Less) x ys (uid_cmp-IsTotalOrder.antisymm y x ∙ ap ordering_reverse e) s.0, insert_key-ascends ys x s.1)
] refl

module _ (all : List EntityUid) (one next : EntityUid) (ys : List EntityUid) where
  abbrev among : Ordering → List EntityUid
  among o = all ++ match_ordering o (one ∷ next ∷ ys) (next ∷ ys) (next ∷ insert_key uid_cmp ys one)

  pub place_less : uid_cmp one next ≡ Less → (all ++ one ∷ []) ++ next ∷ ys ≡ all ++ insert_key uid_cmp (next ∷ ys) one
  place_less e = append_assoc all (one ∷ []) (next ∷ ys) ∙ ap among (sym e)

  pub place_equal : uid_cmp one next ≡ Equal → all ++ next ∷ ys ≡ all ++ insert_key uid_cmp (next ∷ ys) one
  place_equal e = ap among (sym e)

  pub place_greater : uid_cmp one next ≡ Greater → all ++ next ∷ insert_key uid_cmp ys one ≡ all ++ insert_key uid_cmp (next ∷ ys) one
  place_greater e = ap among (sym e)

-- ---- lists of one

pub only_member : {A : Type 0} (x y : A) → Contains (x ∷ []) y → x ≡ y
only_member x y h = elim (Contains-cases x [] y h) [ inl e ↦ e | inr t ↦ Contains-none y t ]

pub only_has : (xs : List EntityUid) (x : EntityUid) → length xs ≡ 1 → Contains xs x → xs ≡ x ∷ []
only_has [] x one h = Contains-none x h
only_has (y ∷ []) x one h = ap (λ z. z ∷ []) (only_member y x h)
only_has (y ∷ z ∷ xs) x one h = absurd (omega (arith, one))

-- ---- the list of the entity

module _ (Q : Parents) (uid p : EntityUid) (anc ch : EntityUid → List EntityUid) (known : AreListsBut uid Q anc ch)
    (after entities : List EntityUid) (only : after ≡ p ∷ []) (other : uid ≡ p → ⊥) (alone : entities ≡ uid ∷ [])
    (parents : (x : EntityUid) → Contains after x ↔ Contains (Q uid) x)
    (below : (q : EntityUid) → Contains entities q ↔ ((uid ≡ q) ⊎ IsAncestor ch q uid)) where
  is_parent : Contains (Q uid) p
  is_parent = (parents p).0 (subst (λ l. Contains l p) (sym only) (Contains-here p []))

  one_parent : (x : EntityUid) → Contains (Q uid) x → p ≡ x
  one_parent x h = only_member p x (subst (λ l. Contains l x) only ((parents x).1 h))

  not_above : IsAncestor known.before uid p → ⊥
  not_above up =
      let down : IsAncestor ch p uid = IsAncestor-turned known.before ch (λ x y. (known.below x y).1) p uid up in
      other (only_member uid p (subst (λ l. Contains l p) alone ((below p).1 (inr down))))

  of_parent : IsListOf Q p (anc p)
  of_parent = IsListOf-kept known.before Q uid known.others p (anc p) other not_above (known.above p)

  there : (a : EntityUid) → Contains (insert_key uid_cmp (anc p) p) a → IsAncestor Q a uid
  there a h = elim (insert_key-from uid_cmp (anc p) p a h) [
    | inl t ↦ let up = (of_parent.0 a).0 t in (p ∷ up.0, (is_parent, up.1))
    | inr e ↦ ([], subst (λ z. Contains (Q uid) z) e is_parent)
  ]

  back : (a : EntityUid) (cs : List EntityUid) → Path Q uid cs a → Contains (insert_key uid_cmp (anc p) p) a
  back a [] h = subst (λ z. Contains (insert_key uid_cmp (anc p) p) z) (one_parent a h) (insert_key-here uid_cmp uid_cmp-IsAntisymmetric (anc p) p)
  back a (c ∷ cs) h =
      let up : IsAncestor Q a p = (cs, subst (λ z. Path Q z cs a) (sym (one_parent c h.0)) h.1) in
      insert_key-kept uid_cmp (anc p) p a ((of_parent.0 a).1 up)

  pub by_parent : IsListOf Q uid (insert_key uid_cmp (anc p) p)
  by_parent = (λ a. (there a, λ up. back a up.0 up.1), insert_key-ascends (anc p) p of_parent.1)
