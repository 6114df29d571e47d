-- Members of lists, and of sets of references.
use Rattle.std.proofs.Common.{◌≡◌, suc, List, [], ◌∷◌, ◌++◌, length, refl, ap, sym, inl, inr, arith}
use Rattle.std.specs.Prelude.{Contains, ◌⊎◌}
use Rattle.std.specs.BTreeSet.{insert_key}
use Rattle.std.specs.Ordering.{match_ordering}
use Rattle.std.specs.declared.cmp.Ordering.{Ordering}
use Rattle.std.specs.declared.cmp.Ordering.TheVariants.{Less, Equal, Greater}
use Rattle.std.specs.Borrow.{Bor}
use Rattle.std.proofs.lemmas.Map.Lookups.{CmpEqualImpliesEq}
use Rattle.values.specs.declared.entity_uid.EntityUid.{EntityUid}
use Rattle.values.specs.Names.{uid_cmp}
use Rattle.ancestor_search.specs.Hierarchy.{referenced}
use Rattle.ancestor_search.specs.Deciding.{Contains-here, Contains-there, Contains-cases, Contains-none}

module _ {K : Type 0} (cmp : K → K → Ordering) where
  -- what is there stays
  pub insert_key-kept : (ks : List K) (k x : K) → Contains ks x → Contains (insert_key cmp ks k) x
  insert_key-kept [] k x h = Contains-none x h
  insert_key-kept (y ∷ ys) k x h = elim (cmp k y) as (λ o. Contains (match_ordering o (k ∷ y ∷ ys) (y ∷ ys) (y ∷ insert_key cmp ys k)) x) [
    | Less ↦ Contains-there k (y ∷ ys) x h
    | Equal ↦ h
    | Greater ↦ elim (Contains-cases y ys x h) [
      | inl e ↦ (0, omega arith, e)
      | inr t ↦ Contains-there y _ x (insert_key-kept ys k x t)
    ]
  ]

  -- nothing else comes in
  pub insert_key-from : (ks : List K) (k x : K) → Contains (insert_key cmp ks k) x → Contains ks x ⊎ (k ≡ x)
  insert_key-from [] k x = λ h. elim (Contains-cases k [] x h) [ inl e ↦ inr e | inr t ↦ Contains-none x t ]
  insert_key-from (y ∷ ys) k x = elim (cmp k y) as (λ o. Contains (match_ordering o (k ∷ y ∷ ys) (y ∷ ys) (y ∷ insert_key cmp ys k)) x → Contains (y ∷ ys) x ⊎ (k ≡ x)) [
    | Less ↦ λ h. elim (Contains-cases k (y ∷ ys) x h) [ inl e ↦ inr e | inr t ↦ inl t ]
    | Equal ↦ λ h. inl h
    | Greater ↦ λ h. elim (Contains-cases y (insert_key cmp ys k) x h) [
      | inl e ↦ inl (0, omega arith, e)
      | inr t ↦ elim (insert_key-from ys k x t) [ inl u ↦ inl (Contains-there y ys x u) | inr e ↦ inr e ]
    ]
  ]

  -- the key is there afterwards
  pub insert_key-here : CmpEqualImpliesEq cmp → (ks : List K) (k : K) → Contains (insert_key cmp ks k) k
  insert_key-here exact [] k = Contains-here k []
  insert_key-here exact (y ∷ ys) k = at (insert_key-here exact ys k) (cmp k y) refl
    where
      at : Contains (insert_key cmp ys k) k → (o : Ordering) → cmp k y ≡ o → Contains (match_ordering o (k ∷ y ∷ ys) (y ∷ ys) (y ∷ insert_key cmp ys k)) k
      at rest Less e = Contains-here k (y ∷ ys)
      at rest Equal e = (0, omega arith, sym (exact k y e))
      at rest Greater e = Contains-there y _ k rest

-- a set of references is the set of what they refer to
pub referenced-insert_key : (ks : List (Bor EntityUid)) (k : Bor EntityUid) → referenced (insert_key (λ x y. uid_cmp x.now y.now) ks k) ≡ insert_key uid_cmp (referenced ks) k.now
referenced-insert_key [] k = refl
referenced-insert_key (y ∷ ys) k = elim (uid_cmp k.now y.now) as (λ o. referenced (match_ordering o (k ∷ y ∷ ys) (y ∷ ys) (y ∷ insert_key (λ x y. uid_cmp x.now y.now) ys k)) ≡ match_ordering o (k.now ∷ y.now ∷ referenced ys) (y.now ∷ referenced ys) (y.now ∷ insert_key uid_cmp (referenced ys) k.now)) [
  | Less ↦ refl
  | Equal ↦ refl
  | Greater ↦ ap (λ r. y.now ∷ r) (referenced-insert_key ys k)
]

pub referenced-push : (xs : List (Bor EntityUid)) (x : Bor EntityUid) → referenced (xs ++ x ∷ []) ≡ referenced xs ++ x.now ∷ []
referenced-push [] x = refl
referenced-push (y ∷ ys) x = ap (λ r. y.now ∷ r) (referenced-push ys x)

pub length-referenced : (xs : List (Bor EntityUid)) → length (referenced xs) ≡ length xs
length-referenced [] = refl
length-referenced (y ∷ ys) = ap suc (length-referenced ys)

pub referenced-none : (xs : List (Bor EntityUid)) → length xs ≡ 0 → referenced xs ≡ []
referenced-none [] e = refl
referenced-none (x ∷ xs) e = absurd (omega arith)
