use Rattle.std.proofs.Common.{◌∙◌, [], ◌∷◌, ◌++◌, take, refl, sym, ap, subst}
use Rattle.std.proofs.lemmas.List.{take_more, take_all}
use Rattle.ancestor_closure.specs.Lists.{children_in}
use Rattle.ancestor_closure.specs.inner.OneChange.{TakesChild}
use Rattle.ancestor_closure.proofs.OneByOne.{takes_none, takes_more}
use Rattle.ancestor_closure.proofs.children.take_from_all.Goals as goal

pub loop-parent-init : goal.loop-parent-init
loop-parent-init c = record { lists = λ q. refl; takes = takes_none c.args.parents.now c.args.child.now (children_in c.args.relatives.now) }

pub loop-parent-preserved : goal.loop-parent-preserved
loop-parent-preserved c =
    let p = c.parent-item.result in
    let ps = take c.loop-parent.parent-index c.args.before.now in
    let more = take_more c.args.before.now c.loop-parent.parent-index p c.loop-parent-test.true ∙ ap (λ z. ps ++ z ∷ []) (sym c.parent-item.is) in
    let now = children_in c.take_child_unless.new.relatives in
    record {
      lists = λ q. c.take_child_unless.ensures.lists q ∙ c.loop-parent.invariant.lists q;
      takes = subst (λ l. TakesChild l c.args.parents.now c.args.child.now (children_in c.args.relatives.now) now) (sym more)
          (takes_more ps c.args.parents.now c.args.child.now p (children_in c.args.relatives.now) (children_in c.loop-parent.relatives) now c.loop-parent.invariant.takes
          (subst (λ z. TakesChild (z ∷ []) c.args.parents.now c.args.child.now (children_in c.loop-parent.relatives) now) c.deref.ensures c.take_child_unless.ensures.takes));
    }

pub returns-clause-takes : goal.returns-clause-takes
returns-clause-takes c =
    subst (λ l. TakesChild l c.args.parents.now c.args.child.now (children_in c.args.relatives.now) (children_in c.loop-parent.relatives)) (take_all _ c.args.before.now c.loop-parent-test.false)
    c.loop-parent.invariant.takes
