use Rattle.std.proofs.Common.{◌∙◌, [], ◌∷◌, ◌++◌, take, ap, sym}
use Rattle.std.proofs.lemmas.List.{take_more, take_all}
use Rattle.ancestor_search.specs.Hierarchy.{referenced}
use Rattle.ancestor_search.proofs.Members.{referenced-push}
use Rattle.ancestor_closure.proofs.lists.shared_all.Goals as goal

pub loop-uid-init : goal.loop-uid-init
loop-uid-init c = c.new-all.ensures.items

pub loop-uid-preserved : goal.loop-uid-preserved
loop-uid-preserved c =
    let u = c.uid-item.result in
    let ps = take c.loop-uid.uid-index c.args.uids.now in
    let more = ap referenced (take_more c.args.uids.now c.loop-uid.uid-index u c.loop-uid-test.true ∙ ap (λ z. ps ++ z ∷ []) (sym c.uid-item.is)) ∙ referenced-push ps u in
    c.in_ok-push.ensures.items ∙ ap (λ z. c.loop-uid.all.items ++ z ∷ []) c.in_ok-shared.ensures ∙ ap (λ l. l ++ u.now ∷ []) c.loop-uid.invariant ∙ sym more

pub returns : goal.returns
returns c = c.loop-uid.invariant ∙ ap referenced (take_all _ c.args.uids.now c.loop-uid-test.false)
