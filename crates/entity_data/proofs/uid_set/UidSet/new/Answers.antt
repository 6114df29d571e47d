use Rattle.std.proofs.lemmas.List.Filters.{dedup_is}
use Rattle.std.proofs.lemmas.List.Kept.{Contains-dedup, Contains-from_dedup, IsStrictlySortedBy-dedup}
use Rattle.std.proofs.lemmas.List.Sorted.{Contains-permutation, IsPermutation-sym}
use Rattle.values.specs.Names.{uid_cmp-IsTotalOrder}
use Rattle.entity_data.specs.UidSets.{uid_set}
use Rattle.entity_data.proofs.UidLemmas.{ties, is_equivalence, sorted_set, same_members}
use Rattle.entity_data.proofs.uid_set.UidSet.new.Goals as goal

pub invariant_of-result : goal.invariant_of-result
invariant_of-result c =
    rw (dedup_is _ _ _ c.dedup.ensures.filtered) (IsStrictlySortedBy-dedup uid_cmp-IsTotalOrder ties _ c.in_ok-sort.ensures.sorted)

pub returns-clause-ascending : goal.returns-clause-ascending
returns-clause-ascending c =
    rw (dedup_is _ _ _ c.dedup.ensures.filtered) (IsStrictlySortedBy-dedup uid_cmp-IsTotalOrder ties _ c.in_ok-sort.ensures.sorted)

pub returns-clause-members : goal.returns-clause-members
returns-clause-members c =
    let is = dedup_is _ _ _ c.dedup.ensures.filtered in
    let moved = c.in_ok-sort.ensures.permutation in
    let same = c.entity_uids_are_ordered.ensures.same in
    λ u. (
      (λ h. Contains-permutation _ _ u (IsPermutation-sym _ _ moved) (Contains-from_dedup _ _ u (rw is at h))),
      (λ h. rw is (Contains-dedup (is_equivalence _ same) (λ x y. (same x y).0) _ u (Contains-permutation _ _ u moved h))),
    )

pub returns-clause-is : goal.returns-clause-is
returns-clause-is c =
    let us = c.args.uids.items in
    let members = returns-clause-members c in
    c.ascending_lists_are_one.ensures c.dedup.new.self.items (uid_set us) (returns-clause-ascending c) (sorted_set us)
    (λ u. ((λ h. (same_members us u).0 ((members u).0 h)), (λ h. (members u).1 ((same_members us u).1 h))))
