use Rattle.std.proofs.Common.{◌∙◌, [], ◌∷◌, ◌++◌, take, ap, sym}
use Rattle.std.proofs.lemmas.List.{take_more, take_all}
use Rattle.ancestor_search.specs.Hierarchy.{referenced}
use Rattle.ancestor_search.proofs.Members.{referenced-push}
use Rattle.ancestor_closure.proofs.lists.lent.Goals as goal

pub loop-uid-init : goal.loop-uid-init
loop-uid-init c = ap referenced c.new-all.ensures.items

pub loop-uid-preserved : goal.loop-uid-preserved
loop-uid-preserved c =
    let ps = take c.loop-uid.uid-index c.args.uids.now in
    let more = take_more c.args.uids.now c.loop-uid.uid-index c.uid-item.result c.loop-uid-test.true ∙ ap (λ z. ps ++ z ∷ []) (sym c.uid-item.is) in
    ap referenced c.in_ok-push.ensures.items ∙ referenced-push c.loop-uid.all.items _ ∙ ap (λ l. l ++ c.deref.result.now ∷ []) c.loop-uid.invariant ∙ ap (λ z. ps ++ z ∷ []) c.deref.ensures ∙ sym more

pub returns : goal.returns
returns c = c.loop-uid.invariant ∙ take_all _ c.args.uids.now c.loop-uid-test.false
