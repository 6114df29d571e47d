use Rattle.std.proofs.Common.{[], ◌∷◌, ◌++◌, take, ap, sym, subst, ◌∙◌}
use Rattle.std.proofs.lemmas.List.{take_more, take_all}
use Rattle.ancestor_search.specs.Hierarchy.{referenced}
use Rattle.ancestor_search.specs.inner.Backwards.{AddsToChildren, AreChildrenAmong, children_of}
use Rattle.ancestor_search.proofs.Members.{referenced-push}
use Rattle.ancestor_search.proofs.Turned.{Among-more}
use Rattle.ancestor_search.proofs.named_cycle.children_among.Goals as goal

pub loop-uid-preserved : goal.loop-uid-preserved
loop-uid-preserved g c =
    let p = g.G.ParentsOf.parents c.args.graph.now in
    let u = c.uid-item.result in
    let us = take c.loop-uid.uid-index c.args.uids.now in
    let more = take_more c.args.uids.now c.loop-uid.uid-index u c.loop-uid-test.true ∙ ap (λ z. us ++ z ∷ []) (sym c.uid-item.is) in
    let kids = children_of c.loop-uid.children in
    let kids' = children_of c.add_child.new.children in
    subst (λ l. AreChildrenAmong l p kids') (sym (ap referenced more ∙ referenced-push us u))
    (Among-more (referenced us) u.now p kids kids' c.loop-uid.invariant
    (subst (λ l. AddsToChildren l u.now kids kids') c.parents_of.ensures c.in_ok-add_child.ensures))

pub returns : goal.returns
returns g c =
    subst (λ l. AreChildrenAmong (referenced l) (g.G.ParentsOf.parents c.args.graph.now) (children_of c.loop-uid.children))
    (take_all _ c.args.uids.now c.loop-uid-test.false) c.loop-uid.invariant
