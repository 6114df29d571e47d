use Rattle.std.proofs.Common.{[], ◌∷◌, ◌++◌, take, ap, sym, subst, ◌∙◌}
use Rattle.std.proofs.lemmas.List.{take_more, take_all}
use Rattle.ancestor_search.specs.inner.Backwards.{AddsToChildren, children_of}
use Rattle.ancestor_search.proofs.Turned.{AddsToChildren-more}
use Rattle.ancestor_search.proofs.named_cycle.add_child.Goals as goal

pub loop-parent-preserved : goal.loop-parent-preserved
loop-parent-preserved c =
    let p = c.parent-item.result in
    let ps = take c.loop-parent.parent-index c.args.parents.now in
    let more = take_more c.args.parents.now c.loop-parent.parent-index p c.loop-parent-test.true ∙ ap (λ z. ps ++ z ∷ []) (sym c.parent-item.is) in
    subst (λ l. AddsToChildren l c.args.child.now (children_of c.args.children.now) (children_of c.add_to.new.children)) (sym more)
    (AddsToChildren-more ps c.args.child.now p (children_of c.args.children.now) (children_of c.loop-parent.children) (children_of c.add_to.new.children) c.loop-parent.invariant c.in_ok-add_to.ensures)

pub returns : goal.returns
returns c =
    subst (λ l. AddsToChildren l c.args.child.now (children_of c.args.children.now) (children_of c.loop-parent.children))
    (take_all _ c.args.parents.now c.loop-parent-test.false) c.loop-parent.invariant
