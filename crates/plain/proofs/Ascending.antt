-- Two ascending lists with the same members are one list, and each list has an ascending one with its members.
use Rattle.std.specs.Prelude.{◌≡◌, List, [], ◌∷◌, Contains, refl}
use Rattle.std.proofs.Common.{inl, inr, sym, ap, subst, ◌∙◌}
use Rattle.std.specs.List.{AllByRecursion}
use Rattle.std.specs.List.Sorted.{IsStrictlySortedBy}
use Rattle.std.specs.FinMap.{IsAntisymmetric}
use Rattle.std.specs.Ordering.{match_ordering, ordering_reverse}
use Rattle.std.specs.Cmp.{IsTotalOrder}
use Rattle.std.specs.declared.cmp.Ordering.{Ordering}
use Rattle.std.specs.declared.cmp.Ordering.TheVariants.{Less, Equal, Greater}
use Rattle.std.proofs.lemmas.Cmp.{tied_itself}
use Rattle.plain.proofs.Members.{Contains-here, Contains-there, Contains-cases, Contains-none}

module _ {X : Type 0} (cmp : X → X → Ordering) (total : IsTotalOrder cmp) where
  below : (P : X → Type 0) (xs : List X) (x : X) → AllByRecursion P xs → Contains xs x → P x
  below P [] x a h = Contains-none x h
  below P (y ∷ ys) x a h = elim (Contains-cases y ys x h) [ inl e ↦ subst P e a.0 | inr t ↦ below P ys x a.1 t ]

  not_below_itself : (x y : X) → cmp x y ≡ Less → x ≡ y → ⊥
  not_below_itself x y l e = let t = tied_itself total x in let u : cmp x x ≡ Less = subst (λ z. cmp x z ≡ Less) (sym e) l in cc

  both_below : (x y : X) → cmp x y ≡ Less → cmp y x ≡ Less → ⊥
  both_below x y l m = let a = total.antisymm x y in let b : ordering_reverse (cmp y x) ≡ Greater = ap ordering_reverse m in cc

  heads : (x y : X) (xs ys : List X) → AllByRecursion (λ v. cmp x v ≡ Less) xs → AllByRecursion (λ v. cmp y v ≡ Less) ys → Contains (y ∷ ys) x → Contains (x ∷ xs) y → x ≡ y
  heads x y xs ys a b i j = elim (Contains-cases y ys x i) [
    | inl e ↦ sym e
    | inr k ↦ elim (Contains-cases x xs y j) [
      | inl e ↦ e
      | inr l ↦ absurd (both_below x y (below (λ v. cmp x v ≡ Less) xs y a l) (below (λ v. cmp y v ≡ Less) ys x b k))
    ]
  ]

  tail_within : (x : X) (xs ys : List X) → AllByRecursion (λ y. cmp x y ≡ Less) xs → ((v : X) → Contains xs v → Contains (x ∷ ys) v) → (v : X) → Contains xs v → Contains ys v
  tail_within x xs ys a s v i = elim (Contains-cases x ys v (s v i)) [
    | inl e ↦ absurd (not_below_itself x v (below (λ y. cmp x y ≡ Less) xs v a i) e)
    | inr j ↦ j
  ]

  pub one_list : (xs ys : List X) → IsStrictlySortedBy cmp xs → IsStrictlySortedBy cmp ys → ((v : X) → Contains xs v → Contains ys v) → ((v : X) → Contains ys v → Contains xs v) → xs ≡ ys
  unfolding IsStrictlySortedBy
  one_list [] [] s t f g = refl
  one_list [] (y ∷ ys) s t f g = Contains-none y (g y (Contains-here y ys))
  one_list (x ∷ xs) [] s t f g = Contains-none x (f x (Contains-here x xs))
  one_list (x ∷ xs) (y ∷ ys) s t f g =
      let same : x ≡ y = heads x y xs ys s.0 t.0 (f x (Contains-here x xs)) (g y (Contains-here y ys)) in
      let f' : (v : X) → Contains xs v → Contains (x ∷ ys) v = λ v i. subst (λ w. Contains (w ∷ ys) v) (sym same) (f v (Contains-there x xs v i)) in
      let g' : (v : X) → Contains ys v → Contains (y ∷ xs) v = λ v i. subst (λ w. Contains (w ∷ xs) v) same (g v (Contains-there y ys v i)) in
      let rest : xs ≡ ys = one_list xs ys s.1 t.1 (tail_within x xs ys s.0 f') (tail_within y ys xs t.0 g') in
      cc

module _ {X : Type 0} (cmp : X → X → Ordering) where
  -- the list with x at its place
  abbrev pub placed : X → List X → List X
  placed x [] = x ∷ []
  placed x (y ∷ ys) = match_ordering (cmp x y) (x ∷ y ∷ ys) (y ∷ ys) (y ∷ placed x ys)

  abbrev pub sorted : List X → List X
  sorted [] = []
  sorted (x ∷ xs) = placed x (sorted xs)

  all_placed : (P : X → Type 0) (x : X) (ys : List X) → P x → AllByRecursion P ys → AllByRecursion P (placed x ys)
  all_placed P x [] p a = (p, a)
  all_placed P x (y ∷ ys) p a = elim (cmp x y) as (λ o. AllByRecursion P (match_ordering o (x ∷ y ∷ ys) (y ∷ ys) (y ∷ placed x ys))) [
    | Less ↦ (p, a)
    | Equal ↦ a
    | Greater ↦ (a.0, all_placed P x ys p a.1)
  ]

  module _ (total : IsTotalOrder cmp) where
    all_above : (x y : X) (ys : List X) → cmp x y ≡ Less → AllByRecursion (λ z. cmp y z ≡ Less) ys → AllByRecursion (λ z. cmp x z ≡ Less) ys
    all_above x y [] l a = a
    all_above x y (z ∷ ys) l a = (total.trans x y z l a.0, all_above x y ys l a.1)

    placed-ascends : (x : X) (ys : List X) → IsStrictlySortedBy cmp ys → IsStrictlySortedBy cmp (placed x ys)
    unfolding IsStrictlySortedBy
    placed-ascends x [] s = (tt, tt)
    placed-ascends x (y ∷ ys) s = elim (cmp x y) as (λ o. cmp x y ≡ o → IsStrictlySortedBy cmp (match_ordering o (x ∷ y ∷ ys) (y ∷ ys) (y ∷ placed x ys))) [
      | Less ↦ λ e. ((e, all_above x y ys e s.0), s)
      | Equal ↦ λ e. s
      | Greater ↦ λ e. (all_placed (λ z. cmp y z ≡ Less) x ys (total.antisymm y x ∙ ap ordering_reverse e) s.0, placed-ascends x ys s.1)
    ] refl

    pub sorted-ascends : (xs : List X) → IsStrictlySortedBy cmp (sorted xs)
    unfolding IsStrictlySortedBy
    sorted-ascends [] = tt
    sorted-ascends (x ∷ xs) = placed-ascends x (sorted xs) (sorted-ascends xs)

  from_placed : (x : X) (ys : List X) (z : X) → Contains (placed x ys) z → Contains (x ∷ ys) z
  from_placed x [] z c = c
  from_placed x (y ∷ ys) z c = elim (cmp x y) as (λ o. Contains (match_ordering o (x ∷ y ∷ ys) (y ∷ ys) (y ∷ placed x ys)) z → Contains (x ∷ y ∷ ys) z) [
    | Less ↦ λ h. h
    | Equal ↦ λ h. Contains-there x (y ∷ ys) z h
    | Greater ↦ λ h. elim (Contains-cases y (placed x ys) z h) [
      | inl e ↦ Contains-there x (y ∷ ys) z (subst (Contains (y ∷ ys)) e (Contains-here y ys))
      | inr t ↦ elim (Contains-cases x ys z (from_placed x ys z t)) [
        | inl e ↦ subst (Contains (x ∷ y ∷ ys)) e (Contains-here x (y ∷ ys))
        | inr r ↦ Contains-there x (y ∷ ys) z (Contains-there y ys z r)
      ]
    ]
  ] c

  pub from_sorted : (xs : List X) (z : X) → Contains (sorted xs) z → Contains xs z
  from_sorted [] z c = c
  from_sorted (x ∷ xs) z c = elim (Contains-cases x (sorted xs) z (from_placed x (sorted xs) z c)) [
    | inl e ↦ subst (Contains (x ∷ xs)) e (Contains-here x xs)
    | inr t ↦ Contains-there x xs z (from_sorted xs z t)
  ]

  module _ (exact : IsAntisymmetric cmp) where
    into_placed : (x : X) (ys : List X) (z : X) → Contains (x ∷ ys) z → Contains (placed x ys) z
    into_placed x [] z c = c
    into_placed x (y ∷ ys) z c = elim (cmp x y) as (λ o. cmp x y ≡ o → Contains (match_ordering o (x ∷ y ∷ ys) (y ∷ ys) (y ∷ placed x ys)) z) [
      | Less ↦ λ e. c
      | Equal ↦ λ e. elim (Contains-cases x (y ∷ ys) z c) [
        | inl same ↦ subst (Contains (y ∷ ys)) (sym (exact x y e) ∙ same) (Contains-here y ys)
        | inr t ↦ t
      ]
      | Greater ↦ λ e. elim (Contains-cases x (y ∷ ys) z c) [
        | inl same ↦ Contains-there y (placed x ys) z (into_placed x ys z (subst (Contains (x ∷ ys)) same (Contains-here x ys)))
        | inr t ↦ elim (Contains-cases y ys z t) [
          | inl same ↦ subst (Contains (y ∷ placed x ys)) same (Contains-here y (placed x ys))
          | inr r ↦ Contains-there y (placed x ys) z (into_placed x ys z (Contains-there x ys z r))
        ]
      ]
    ] refl

    pub into_sorted : (xs : List X) (z : X) → Contains xs z → Contains (sorted xs) z
    into_sorted [] z c = c
    into_sorted (x ∷ xs) z c = into_placed x (sorted xs) z (elim (Contains-cases x xs z c) [
      | inl e ↦ subst (Contains (x ∷ sorted xs)) e (Contains-here x (sorted xs))
      | inr t ↦ Contains-there x (sorted xs) z (into_sorted xs z t)
    ])
