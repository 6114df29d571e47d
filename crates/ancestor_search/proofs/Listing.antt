-- Two ascending lists of the same entities.
use Rattle.std.proofs.Common.{◌≡◌, List, [], ◌∷◌, refl, sym, subst, inl, inr, ◌∙◌}
use Rattle.std.specs.Prelude.{Contains}
use Rattle.std.specs.List.Sorted.{IsStrictlySortedBy}
use Rattle.std.specs.declared.cmp.Ordering.TheVariants.{Less, Equal}
use Rattle.std.specs.Cmp.{tied_itself}
use Rattle.std.proofs.lemmas.List.Elements.{All-from_recursion, All-contains}
use Rattle.values.specs.declared.entity_uid.EntityUid.{EntityUid}
use Rattle.values.specs.Names.{uid_cmp, uid_cmp-IsTotalOrder}
use Rattle.ancestor_search.specs.Hierarchy.{IsAscending, AscendingListsAreOne}
use Rattle.ancestor_search.specs.Deciding.{Contains-here, Contains-there, Contains-cases, Contains-none}

above_first : (x : EntityUid) (xs : List EntityUid) → IsAscending (x ∷ xs) → (a : EntityUid) → Contains xs a → uid_cmp x a ≡ Less
unfolding IsStrictlySortedBy
above_first x xs h a there = All-contains (λ z. uid_cmp x z ≡ Less) xs a (All-from_recursion (λ z. uid_cmp x z ≡ Less) xs h.0) there

rest_ascends : (x : EntityUid) (xs : List EntityUid) → IsAscending (x ∷ xs) → IsAscending xs
unfolding IsStrictlySortedBy
rest_ascends x xs h = h.1

not_below_itself : (x y : EntityUid) → x ≡ y → uid_cmp x y ≡ Less → ⊥
not_below_itself x y e less =
    let tied : uid_cmp x x ≡ Equal = tied_itself uid_cmp-IsTotalOrder x in
    let below : uid_cmp x x ≡ Less = subst (λ z. uid_cmp x z ≡ Less) (sym e) less in
    cc (tied, below)

first_same : (x : EntityUid) (xs : List EntityUid) (y : EntityUid) (ys : List EntityUid) → IsAscending (x ∷ xs) → IsAscending (y ∷ ys) → Contains (y ∷ ys) x → Contains (x ∷ xs) y → x ≡ y
first_same x xs y ys h k there back = elim (Contains-cases y ys x there) [
  | inl e ↦ sym e
  | inr t ↦ elim (Contains-cases x xs y back) [
    | inl e ↦ e
    | inr u ↦ absurd (not_below_itself x x refl (uid_cmp-IsTotalOrder.trans x y x (above_first x xs h y u) (above_first y ys k x t)))
  ]
]

rest_in : (x : EntityUid) (xs : List EntityUid) (y : EntityUid) (ys : List EntityUid) → IsAscending (x ∷ xs) → x ≡ y → (a : EntityUid) → (Contains (x ∷ xs) a → Contains (y ∷ ys) a) → Contains xs a → Contains ys a
rest_in x xs y ys h e a goes there = elim (Contains-cases y ys a (goes (Contains-there x xs a there))) [
  | inl same ↦ absurd (not_below_itself x a (e ∙ same) (above_first x xs h a there))
  | inr t ↦ t
]

pub ascending_lists_are_one : AscendingListsAreOne
ascending_lists_are_one [] [] h k same = refl
ascending_lists_are_one [] (y ∷ ys) h k same = Contains-none y ((same y).1 (Contains-here y ys))
ascending_lists_are_one (x ∷ xs) [] h k same = Contains-none x ((same x).0 (Contains-here x xs))
ascending_lists_are_one (x ∷ xs) (y ∷ ys) h k same =
    let first : x ≡ y = first_same x xs y ys h k ((same x).0 (Contains-here x xs)) ((same y).1 (Contains-here y ys)) in
    let rest : xs ≡ ys = ascending_lists_are_one xs ys (rest_ascends x xs h) (rest_ascends y ys k) (λ a. (rest_in x xs y ys h first a (same a).0, rest_in y ys x xs k (sym first) a (same a).1)) in
    λ i. first i ∷ rest i
