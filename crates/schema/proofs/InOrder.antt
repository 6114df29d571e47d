-- The items of a list in the order of their keys, of each key one.
use Rattle.std.proofs.Common.{◌≡◌, ◌∙◌, List, [], ◌∷◌, map, refl, sym, ap, subst, inl, inr}
use Rattle.std.specs.Prelude.{Contains, ◌⊎◌}
use Rattle.std.specs.List.{AllByRecursion}
use Rattle.std.specs.List.Sorted.{IsStrictlySortedBy}
use Rattle.std.specs.Ordering.{match_ordering, ordering_reverse}
use Rattle.std.specs.Cmp.{IsTotalOrder}
use Rattle.std.specs.FinMap.{IsAntisymmetric}
use Rattle.std.specs.declared.cmp.Ordering.{Ordering}
use Rattle.std.specs.declared.cmp.Ordering.TheVariants.{Less, Equal, Greater}
use Rattle.ancestor_search.specs.Deciding.{Contains-here, Contains-there, Contains-cases, Contains-none}

module _ {E K : Type 0} (cmp : K → K → Ordering) (key : E → K) where
  -- x at its place, unless an item of its key is there
  abbrev placed : E → List E → List E
  placed x [] = x ∷ []
  placed x (y ∷ ys) = match_ordering (cmp (key x) (key y)) (x ∷ y ∷ ys) (y ∷ ys) (y ∷ placed x ys)

  abbrev pub in_order : List E → List E
  in_order [] = []
  in_order (x ∷ xs) = placed x (in_order xs)

  abbrev IsAncestor : K → List E → Type 0
  IsAncestor k ys = AllByRecursion (λ l. cmp k l ≡ Less) (map key ys)

  abbrev Ascends : List E → Type 0
  Ascends ys = IsStrictlySortedBy cmp (map key ys)

  above_placed : (k : K) (x : E) (ys : List E) → cmp k (key x) ≡ Less → IsAncestor k ys → IsAncestor k (placed x ys)
  above_placed k x [] lt h = (lt, tt)
  above_placed k x (y ∷ ys) lt h = by (cmp (key x) (key y)) (above_placed k x ys lt h.1)
    where
      by : (r : Ordering) → IsAncestor k (placed x ys) → IsAncestor k (match_ordering r (x ∷ y ∷ ys) (y ∷ ys) (y ∷ placed x ys))
      by Less rest = (lt, h)
      by Equal rest = h
      by Greater rest = (h.0, rest)

  placed_from : (x : E) (ys : List E) (z : E) → Contains (placed x ys) z → (x ≡ z) ⊎ Contains ys z
  placed_from x [] z h = Contains-cases x [] z h
  placed_from x (y ∷ ys) z h = by (cmp (key x) (key y)) (placed_from x ys z) h
    where
      more : (x ≡ z) ⊎ Contains ys z → (x ≡ z) ⊎ Contains (y ∷ ys) z
      more (inl same) = inl same
      more (inr there) = inr (Contains-there y ys z there)

      later : (y ≡ z) ⊎ Contains (placed x ys) z → (Contains (placed x ys) z → (x ≡ z) ⊎ Contains ys z) → (x ≡ z) ⊎ Contains (y ∷ ys) z
      later (inl same) rest = inr (subst (λ (w : E). Contains (y ∷ ys) w) same (Contains-here y ys))
      later (inr there) rest = more (rest there)

      by : (r : Ordering) → (Contains (placed x ys) z → (x ≡ z) ⊎ Contains ys z) → Contains (match_ordering r (x ∷ y ∷ ys) (y ∷ ys) (y ∷ placed x ys)) z → (x ≡ z) ⊎ Contains (y ∷ ys) z
      by Less rest here = Contains-cases x (y ∷ ys) z here
      by Equal rest here = inr here
      by Greater rest here = later (Contains-cases y (placed x ys) z here) rest

  placed_kept : (x : E) (ys : List E) (k : K) → Contains (map key ys) k → Contains (map key (placed x ys)) k
  placed_kept x [] k h = Contains-none k h
  placed_kept x (y ∷ ys) k h = by (cmp (key x) (key y)) (placed_kept x ys k)
    where
      later : (key y ≡ k) ⊎ Contains (map key ys) k → (Contains (map key ys) k → Contains (map key (placed x ys)) k) → Contains (key y ∷ map key (placed x ys)) k
      later (inl same) rest = subst (λ (l : K). Contains (key y ∷ map key (placed x ys)) l) same (Contains-here (key y) (map key (placed x ys)))
      later (inr there) rest = Contains-there (key y) (map key (placed x ys)) k (rest there)

      by : (r : Ordering) → (Contains (map key ys) k → Contains (map key (placed x ys)) k) → Contains (map key (match_ordering r (x ∷ y ∷ ys) (y ∷ ys) (y ∷ placed x ys))) k
      by Less rest = Contains-there (key x) (key y ∷ map key ys) k h
      by Equal rest = h
      by Greater rest = later (Contains-cases (key y) (map key ys) k h) rest

  pub from_in_order : (xs : List E) (z : E) → Contains (in_order xs) z → Contains xs z
  from_in_order [] z h = h
  from_in_order (x ∷ xs) z h = by (placed_from x (in_order xs) z h) (from_in_order xs z)
    where
      by : (x ≡ z) ⊎ Contains (in_order xs) z → (Contains (in_order xs) z → Contains xs z) → Contains (x ∷ xs) z
      by (inl same) rest = subst (λ (w : E). Contains (x ∷ xs) w) same (Contains-here x xs)
      by (inr there) rest = Contains-there x xs z (rest there)

  module _ (total : IsTotalOrder cmp) (exact : IsAntisymmetric cmp) where
    below_all : (k l : K) (ys : List E) → cmp k l ≡ Less → IsAncestor l ys → IsAncestor k ys
    below_all k l [] lt h = tt
    below_all k l (y ∷ ys) lt h = (total.trans k l (key y) lt h.0, below_all k l ys lt h.1)

    turned : (k l : K) → cmp k l ≡ Greater → cmp l k ≡ Less
    turned k l e = total.antisymm l k ∙ ap ordering_reverse e

    placed_ascends : (x : E) (ys : List E) → Ascends ys → Ascends (placed x ys)
    unfolding IsStrictlySortedBy
    placed_ascends x [] h = (tt, tt)
    placed_ascends x (y ∷ ys) h = by (cmp (key x) (key y)) refl (placed_ascends x ys h.1)
      where
        by : (r : Ordering) → cmp (key x) (key y) ≡ r → Ascends (placed x ys) → Ascends (match_ordering r (x ∷ y ∷ ys) (y ∷ ys) (y ∷ placed x ys))
        by Less is rest = ((is, below_all (key x) (key y) ys is h.0), h)
        by Equal is rest = h
        by Greater is rest = (above_placed (key y) x ys (turned (key x) (key y) is) h.0, rest)

    placed_here : (x : E) (ys : List E) → Contains (map key (placed x ys)) (key x)
    placed_here x [] = Contains-here (key x) []
    placed_here x (y ∷ ys) = by (cmp (key x) (key y)) refl (placed_here x ys)
      where
        by : (r : Ordering) → cmp (key x) (key y) ≡ r → Contains (map key (placed x ys)) (key x) → Contains (map key (match_ordering r (x ∷ y ∷ ys) (y ∷ ys) (y ∷ placed x ys))) (key x)
        by Less is rest = Contains-here (key x) (key y ∷ map key ys)
        by Equal is rest = subst (λ (k : K). Contains (key y ∷ map key ys) k) (sym (exact (key x) (key y) is)) (Contains-here (key y) (map key ys))
        by Greater is rest = Contains-there (key y) (map key (placed x ys)) (key x) rest

    pub in_order_ascends : (xs : List E) → Ascends (in_order xs)
    unfolding IsStrictlySortedBy
    in_order_ascends [] = tt
    in_order_ascends (x ∷ xs) = placed_ascends x (in_order xs) (in_order_ascends xs)

    pub all_in_order : (xs : List E) (x : E) → Contains xs x → Contains (map key (in_order xs)) (key x)
    all_in_order [] x h = Contains-none x h
    all_in_order (y ∷ xs) x h = by (Contains-cases y xs x h) (all_in_order xs x)
      where
        by : (y ≡ x) ⊎ Contains xs x → (Contains xs x → Contains (map key (in_order xs)) (key x)) → Contains (map key (placed y (in_order xs))) (key x)
        by (inl same) rest = subst (λ (z : E). Contains (map key (placed y (in_order xs))) (key z)) same (placed_here y (in_order xs))
        by (inr there) rest = placed_kept y (in_order xs) (key x) (rest there)
