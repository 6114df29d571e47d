-- An entity without parents has no ancestors.
use Rattle.std.proofs.Common.{◌≡◌, List, [], ◌∷◌, subst, sym}
use Rattle.std.specs.Prelude.{Contains}
use Rattle.std.specs.List.Sorted.{IsStrictlySortedBy}
use Rattle.std.specs.Borrow.{Bor}
use Rattle.values.specs.declared.entity_uid.EntityUid.{EntityUid}
use Rattle.ancestor_closure.specs.ancestor_search.Hierarchy.{Parents, Path, AreAllAncestorsOf, IsAscending, referenced}
use Rattle.ancestor_closure.specs.ancestor_search.Deciding.{Contains-none}

no_way_up : (parents : Parents) (b : EntityUid) → parents b ≡ [] → (through : List EntityUid) (a : EntityUid)
    → Path parents b through a → ⊥
no_way_up parents b none [] a h = Contains-none a (subst (λ (us : List EntityUid). Contains us a) none h)
no_way_up parents b none (c ∷ cs) a h = Contains-none c (subst (λ (us : List EntityUid). Contains us c) none h.0)

pub nothing_above : (parents : Parents) (b : EntityUid) (found : List (Bor EntityUid)) → found ≡ [] → parents b ≡ []
    → AreAllAncestorsOf parents b (referenced found)
nothing_above parents b found empty none = subst (λ (us : List (Bor EntityUid)). AreAllAncestorsOf parents b (referenced us)) (sym empty)
    (λ a. ((λ m. Contains-none a m), (λ h. absurd (no_way_up parents b none h.0 a h.1))))

pub none_ascend : (found : List (Bor EntityUid)) → found ≡ [] → IsAscending (referenced found)
unfolding IsStrictlySortedBy
none_ascend found empty = subst (λ (us : List (Bor EntityUid)). IsAscending (referenced us)) (sym empty) tt
