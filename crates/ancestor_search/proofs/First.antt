-- The first of an ascending list.
use Rattle.std.proofs.Common.{◌≡◌, false, List, [], ◌∷◌, refl, ap, sym, subst, inl, inr, Some, None, slice_get}
use Rattle.std.specs.Prelude.{Contains}
use Rattle.std.specs.Ordering.{is_gt}
use Rattle.std.specs.List.Sorted.{IsStrictlySortedBy}
use Rattle.std.specs.declared.cmp.Ordering.TheVariants.{Less}
use Rattle.std.specs.Borrow.{Bor}
use Rattle.std.specs.Cmp.{tied_itself}
use Rattle.std.proofs.lemmas.List.Elements.{All-from_recursion, All-contains}
use Rattle.values.specs.Names.{uid_cmp, uid_cmp-IsTotalOrder}
use Rattle.values.specs.declared.entity_uid.EntityUid.{EntityUid}
use Rattle.ancestor_search.specs.Hierarchy.{Parents, IsAncestor, IsAscending, referenced}
use Rattle.ancestor_search.specs.inner.Backwards.{IsWalkBack}
use Rattle.ancestor_search.specs.LeastCycle.{IsLeastCycle, IsLeastCycleFrom}
use Rattle.ancestor_search.specs.Deciding.{Contains-here, Contains-cases}

pub none_first : (xs : List (Bor EntityUid)) → None ≡ slice_get xs 0 → referenced xs ≡ []
none_first [] e = refl
none_first (x ∷ xs) e = cc e

pub first_in : (xs : List (Bor EntityUid)) (s : Bor EntityUid) → Some s ≡ slice_get xs 0 → Contains (referenced xs) s.now
first_in [] s e = cc e
first_in (x ∷ xs) s e = let same : s ≡ x = cc e in subst (λ z. Contains (referenced (x ∷ xs)) z.now) (sym same) (Contains-here x.now (referenced xs))

pub first_least : (xs : List (Bor EntityUid)) (s : Bor EntityUid) → Some s ≡ slice_get xs 0 → IsAscending (referenced xs) → (x : EntityUid) → Contains (referenced xs) x → is_gt (uid_cmp s.now x) ≡ false
unfolding IsStrictlySortedBy
first_least [] s e sorted x h = cc e
first_least (y ∷ ys) s e sorted x h =
    let same : s ≡ y = cc e in
    subst (λ z. is_gt (uid_cmp z.now x) ≡ false) (sym same) (elim (Contains-cases y.now (referenced ys) x h) [
      | inl is ↦ subst (λ z. is_gt (uid_cmp y.now z) ≡ false) is (ap is_gt (tied_itself uid_cmp-IsTotalOrder y.now))
      | inr t ↦ ap is_gt (All-contains (λ z. uid_cmp y.now z ≡ Less) (referenced ys) x (All-from_recursion (λ z. uid_cmp y.now z ≡ Less) (referenced ys) sorted.0) t)
    ])

pub cycle_from_walk : (p : Parents) (s : EntityUid) (zs : List EntityUid) → IsWalkBack p s zs → ((x : EntityUid) → IsAncestor p x x → is_gt (uid_cmp s x) ≡ false) → IsLeastCycle p zs
cycle_from_walk p s [] w first = w
cycle_from_walk p s (y ∷ ys) w first = subst (λ z. IsLeastCycleFrom p z ys) (sym w.0) (record {
  closed = w.1.path;
  first = first;
  shortest = w.1.shortest;
  least = w.1.least;
})
