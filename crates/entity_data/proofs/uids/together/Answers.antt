use Rattle.std.proofs.Common.{◌∙◌, ◌++◌, ap}
use Rattle.std.specs.Borrow.{Bor}
use Rattle.std.proofs.lemmas.List.{take_all}
use Rattle.std.proofs.lemmas.List.Filters.{dedup_is}
use Rattle.std.proofs.lemmas.List.Kept.{IsStrictlySortedBy-dedup}
use Rattle.std.proofs.lemmas.Cmp.{on_total}
use Rattle.values.specs.declared.entity_uid.EntityUid.{EntityUid}
use Rattle.values.specs.Names.{uid_cmp-IsTotalOrder}
use Rattle.evaluator.specs.ancestor_search.Hierarchy.{referenced}
use Rattle.entity_data.proofs.UidLemmas.{ascending_names, members_of, ties}
use Rattle.entity_data.proofs.uids.together.Goals as goal

pub returns-clause-ascending : goal.returns-clause-ascending
returns-clause-ascending c =
    let is = dedup_is _ _ _ c.dedup.ensures.filtered in
    ascending_names c.dedup.new.self.items (rw is (IsStrictlySortedBy-dedup (on_total (λ (b : Bor EntityUid). b.now) uid_cmp-IsTotalOrder) (λ a b. ties a.now b.now) _ c.in_ok-sort.ensures.sorted))

pub returns-clause-members : goal.returns-clause-members
returns-clause-members c =
    let is = dedup_is _ _ _ c.dedup.ensures.filtered in
    members_of _ c.entity_uids_are_ordered.ensures.same _ _ c.dedup.new.self.items (referenced c.args.some.items) c.args.others.now
    (c.loop-uid.invariant ∙ ap (λ us. referenced c.args.some.items ++ us) (take_all c.loop-uid.uid-index c.args.others.now c.loop-uid-test.false)) c.in_ok-sort.ensures.permutation is
