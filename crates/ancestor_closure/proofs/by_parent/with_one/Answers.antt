use Rattle.std.proofs.Common.{[], ◌∷◌, ◌++◌, take, ap, sym, ◌∙◌, append_assoc}
use Rattle.std.proofs.lemmas.List.{take_more, take_all, append-nil}
use Rattle.std.specs.BTreeSet.{insert_key}
use Rattle.values.specs.Names.{uid_cmp}
use Rattle.ancestor_closure.proofs.by_parent.with_one.Goals as goal

pub loop-uid-init : goal.loop-uid-init
loop-uid-init c = λ ys. ap (λ l. l ++ insert_key uid_cmp ys c.args.one.now) c.in_ok-all.ensures.items

pub loop-uid-preserved : goal.loop-uid-preserved
loop-uid-preserved c = λ ys.
    let u = c.uid-item.result in
    let us = take c.loop-uid.uid-index c.args.list.now in
    let more = take_more c.args.list.now c.loop-uid.uid-index u c.loop-uid-test.true ∙ ap (λ z. us ++ z ∷ []) (sym c.uid-item.is) in
    c.in_ok-placed.ensures ys ∙ c.loop-uid.invariant (u ∷ ys)
    ∙ ap (λ l. insert_key uid_cmp l c.args.one.now) (sym (append_assoc us (u ∷ []) ys) ∙ ap (λ l. l ++ ys) (sym more))

pub returns : goal.returns
returns c =
    c.in_ok-add_last.ensures ∙ c.loop-uid.invariant []
    ∙ ap (λ l. insert_key uid_cmp l c.args.one.now) (append-nil (take c.loop-uid.uid-index c.args.list.now) ∙ take_all _ c.args.list.now c.loop-uid-test.false)
