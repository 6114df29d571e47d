use Rattle.std.proofs.Common.{◌≡◌, ◌∙◌, [], ◌∷◌, ◌++◌, take, sym, ap, subst}
use Rattle.std.specs.Prelude.{Contains, ◌↔◌}
use Rattle.std.specs.BTreeSet.{insert_key}
use Rattle.std.proofs.lemmas.List.{take_more, take_all}
use Rattle.values.specs.Names.{uid_cmp}
use Rattle.ancestor_search.specs.Hierarchy.{referenced}
use Rattle.ancestor_search.specs.Deciding.{Contains-none}
use Rattle.ancestor_search.proofs.Members.{referenced-push}
use Rattle.ancestor_closure.proofs.Whole.{member_more}
use Rattle.ancestor_closure.proofs.whole_graph.set_of.Goals as goal

pub loop-uid-init : goal.loop-uid-init
loop-uid-init c = λ x. (λ h. Contains-none x (subst (λ l. Contains l x) c.new-found.ensures.empty h), λ h. Contains-none x h)

pub loop-uid-preserved : goal.loop-uid-preserved
loop-uid-preserved c =
    let p = c.uid-item.result in
    let ps = take c.loop-uid.uid-index c.args.uids.now in
    let more = ap referenced (take_more c.args.uids.now c.loop-uid.uid-index p c.loop-uid-test.true ∙ ap (λ z. ps ++ z ∷ []) (sym c.uid-item.is)) ∙ referenced-push ps p in
    let before = c.loop-uid.found.keys in
    let now = c.insert.new.self.keys in
    let inserted : now ≡ insert_key uid_cmp before p.now = c.in_ok-insert.ensures.keys ∙ ap (insert_key uid_cmp before) c.in_ok-shared.ensures in
    λ x. subst (λ l. Contains now x ↔ Contains l x) (sym more) (member_more before now (referenced ps) p.now c.loop-uid.invariant inserted x)

pub returns : goal.returns
returns c = λ x. subst (λ l. Contains c.loop-uid.found.keys x ↔ Contains l x) (ap referenced (take_all _ c.args.uids.now c.loop-uid-test.false)) (c.loop-uid.invariant x)
