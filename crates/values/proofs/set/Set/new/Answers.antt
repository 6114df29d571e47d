use Rattle.std.proofs.Common.{List, refl, subst}
use Rattle.std.proofs.lemmas.Cmp.{eq_by_cmp_equiv}
use Rattle.std.proofs.lemmas.List.Filters.{dedup_is}
use Rattle.std.proofs.lemmas.List.Kept.{Contains-dedup, Contains-from_dedup, IsStrictlySortedBy-dedup}
use Rattle.std.proofs.lemmas.List.Sorted.{Contains-permutation, IsPermutation-sym}
use Rattle.values.specs.Values.{PlainValue, values_of}
use Rattle.values.specs.ValueOrder.{value_cmp-IsTotalOrder}
use Rattle.values.specs.WellFormed.{AreMembersWellFormed}
use Rattle.values.proofs.Unique.{set_is, same_from_eq}
use Rattle.values.proofs.WellFormedLemmas.{all_members, one_member}
use Rattle.values.proofs.set.Set.new.Goals as goal

pub invariant_of-result : goal.invariant_of-result
invariant_of-result c =
    let is = dedup_is _ _ _ c.dedup.ensures.filtered in
    let moved = c.in_ok-sort.ensures.permutation in (
      rw is (IsStrictlySortedBy-dedup value_cmp-IsTotalOrder (λ x y. refl) _ c.in_ok-sort.ensures.sorted),
      all_members _ (λ v h. one_member _ (subst (λ (vs : List PlainValue). AreMembersWellFormed (values_of vs)) c.deref.ensures.value c.all_well_formed.ensures) v (Contains-permutation _ _ v (IsPermutation-sym _ _ moved) (Contains-from_dedup _ _ v (rw is at h)))),
    )

pub returns-clause-is : goal.returns-clause-is
returns-clause-is c =
    let is = dedup_is _ _ _ c.dedup.ensures.filtered in
    let moved = c.in_ok-sort.ensures.permutation in
    set_is _ _ (rw is (IsStrictlySortedBy-dedup value_cmp-IsTotalOrder (λ x y. refl) _ c.in_ok-sort.ensures.sorted))
    (λ v h. Contains-permutation _ _ v (IsPermutation-sym _ _ moved) (Contains-from_dedup _ _ v (rw is at h)))
    (λ v h. rw is (Contains-dedup (eq_by_cmp_equiv value_cmp-IsTotalOrder) same_from_eq _ v (Contains-permutation _ _ v moved h)))

pub returns-clause-members : goal.returns-clause-members
returns-clause-members c v =
    let is = dedup_is _ _ _ c.dedup.ensures.filtered in
    let moved = c.in_ok-sort.ensures.permutation in (
      (λ h. Contains-permutation _ _ v (IsPermutation-sym _ _ moved) (Contains-from_dedup _ _ v (rw is at h))),
      (λ h. rw is (Contains-dedup (eq_by_cmp_equiv value_cmp-IsTotalOrder) same_from_eq _ v (Contains-permutation _ _ v moved h))),
    )

pub returns-clause-ascending : goal.returns-clause-ascending
returns-clause-ascending c =
    let is = dedup_is _ _ _ c.dedup.ensures.filtered in
    rw is (IsStrictlySortedBy-dedup value_cmp-IsTotalOrder (λ x y. refl) _ c.in_ok-sort.ensures.sorted)
