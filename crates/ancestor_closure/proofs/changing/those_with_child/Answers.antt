use Rattle.std.proofs.Common.{◌∙◌, [], ◌∷◌, ◌++◌, take, sym, ap, subst}
use Rattle.std.specs.Prelude.{Contains}
use Rattle.std.proofs.lemmas.List.{take_more, take_all}
use Rattle.ancestor_search.proofs.Picking.{Picked}
use Rattle.ancestor_closure.specs.Lists.{children_in}
use Rattle.ancestor_closure.proofs.OneByOne.{picked_none, picked_more}
use Rattle.ancestor_closure.proofs.changing.those_with_child.Goals as goal

pub loop-entity-init : goal.loop-entity-init
loop-entity-init c =
    subst (λ l. Picked (λ x. Contains (children_in c.args.relatives.now x) c.args.child.now) [] l) (sym c.new-found.ensures.items) (picked_none (λ x. Contains (children_in c.args.relatives.now x) c.args.child.now))

pub loop-entity-preserved : goal.loop-entity-preserved
loop-entity-preserved c =
    let p = c.entity-item.result in
    let ps = take c.loop-entity.entity-index c.args.entities.now in
    let more = take_more c.args.entities.now c.loop-entity.entity-index p c.loop-entity-test.true ∙ ap (λ z. ps ++ z ∷ []) (sym c.entity-item.is) in
    subst (λ l. Picked (λ x. Contains (children_in c.args.relatives.now x) c.args.child.now) l c.add_if_parent.new.found.items) (sym more)
    (picked_more (λ x. Contains (children_in c.args.relatives.now x) c.args.child.now) ps c.loop-entity.found.items c.add_if_parent.new.found.items p c.loop-entity.invariant c.in_ok-add_if_parent.ensures)

pub returns-clause-all : goal.returns-clause-all
returns-clause-all c = (subst (λ l. Picked (λ x. Contains (children_in c.args.relatives.now x) c.args.child.now) l c.loop-entity.found.items) (take_all _ c.args.entities.now c.loop-entity-test.false) c.loop-entity.invariant).same

pub returns-clause-ascending : goal.returns-clause-ascending
returns-clause-ascending c = (subst (λ l. Picked (λ x. Contains (children_in c.args.relatives.now x) c.args.child.now) l c.loop-entity.found.items) (take_all _ c.args.entities.now c.loop-entity-test.false) c.loop-entity.invariant).ascending
