use Rattle.std.proofs.Common.{◌≡◌, ◌∙◌, [], ◌∷◌, ◌++◌, take, sym, ap, subst}
use Rattle.std.specs.Prelude.{Contains, ◌↔◌}
use Rattle.std.specs.BTreeSet.{insert_key}
use Rattle.std.proofs.lemmas.List.{take_more, take_all}
use Rattle.std.proofs.lemmas.Result.{IfOk-weaker}
use Rattle.values.specs.declared.entity_uid.EntityUid.{EntityUid}
use Rattle.values.specs.Names.{uid_cmp}
use Rattle.ancestor_search.specs.Hierarchy.{referenced, IsAscending}
use Rattle.ancestor_search.specs.Deciding.{Contains-none}
use Rattle.ancestor_search.proofs.Members.{referenced-insert_key}
use Rattle.ancestor_closure.proofs.OneByOne.{member_more}
use Rattle.ancestor_closure.proofs.changing.ascending.Goals as goal

pub loop-uid-init : goal.loop-uid-init
loop-uid-init c = λ x. (λ h. Contains-none x (subst (λ l. Contains (referenced l) x) c.new-found.ensures.empty h), λ h. Contains-none x h)

pub loop-uid-preserved : goal.loop-uid-preserved
loop-uid-preserved c =
    let p = c.uid-item.result in
    let ps = take c.loop-uid.uid-index c.args.uids.now in
    let more = take_more c.args.uids.now c.loop-uid.uid-index p c.loop-uid-test.true ∙ ap (λ z. ps ++ z ∷ []) (sym c.uid-item.is) in
    let before = referenced c.loop-uid.found.keys in
    let now = referenced c.insert.new.self.keys in
    let inserted : now ≡ insert_key uid_cmp before p = ap referenced c.in_ok-insert.ensures.keys ∙ referenced-insert_key c.loop-uid.found.keys _ in
    λ x. subst (λ l. Contains now x ↔ Contains l x) (sym more) (member_more before now ps p c.loop-uid.invariant inserted x)

pub returns-clause-all : goal.returns-clause-all
returns-clause-all c =
    let us = c.args.uids.now in
    IfOk-weaker c.listed.result (λ v. referenced v.items ≡ referenced c.loop-uid.found.keys) (λ v. (x : EntityUid) → Contains (referenced v.items) x ↔ Contains us x)
    (λ v e x. subst (λ l. Contains l x ↔ Contains us x) (sym e) (subst (λ l. Contains (referenced c.loop-uid.found.keys) x ↔ Contains l x) (take_all _ us c.loop-uid-test.false) (c.loop-uid.invariant x))) c.listed.ensures.same

pub returns-clause-ascending : goal.returns-clause-ascending
returns-clause-ascending c =
    IfOk-weaker c.listed.result (λ v. referenced v.items ≡ referenced c.loop-uid.found.keys) (λ v. IsAscending (referenced v.items)) (λ v e. subst (λ l. IsAscending l) (sym e) c.listed.ensures.ascending) c.listed.ensures.same
