use Rattle.std.proofs.Common.{[], ◌∷◌, ◌++◌, take, ap, sym, subst, ◌∙◌}
use Rattle.std.proofs.lemmas.List.{take_more, take_all}
use Rattle.ancestor_search.specs.Hierarchy.{referenced}
use Rattle.ancestor_search.specs.inner.Numbering.{NumbersAmong}
use Rattle.ancestor_search.proofs.Bridge.{numbers-take, numbers-skip}
use Rattle.ancestor_search.proofs.numbers.numbers_of.Goals as goal
use Rattle.ancestor_search.proofs.numbers.numbers_of.Goals.{in-Some+in_ok-push, in_default}

pub loop-parent-preserved : goal.loop-parent-preserved
loop-parent-preserved c =
    let us = referenced c.args.uids.now in
    let p = c.parent-item.result in
    let ps = take c.loop-parent.parent-index c.args.parents.now in
    let more = take_more c.args.parents.now c.loop-parent.parent-index p c.loop-parent-test.true ∙ ap (λ y. ps ++ y ∷ []) (sym c.parent-item.is) in
    rw more (elim c.match-number_of.branch [
      | in-Some+in_ok-push w ↦ subst (λ l. NumbersAmong us (ps ++ p ∷ []) l) (sym w.in_ok-push.ensures.items ∙ ap (λ v. v.items) (sym w.numbers-is))
          (numbers-take us c.requires ps c.loop-parent.numbers.items c.loop-parent.invariant p w.in-Some.number w.in-Some.ensures)
      | in_default w ↦ subst (λ l. NumbersAmong us (ps ++ p ∷ []) l) (ap (λ v. v.items) (sym w.numbers-is))
          (numbers-skip us ps c.loop-parent.numbers.items c.loop-parent.invariant p w.in_default.ensures)
    ])

pub returns : goal.returns
returns c = subst (λ l. NumbersAmong (referenced c.args.uids.now) l c.loop-parent.numbers.items) (take_all _ c.args.parents.now c.loop-parent-test.false) c.loop-parent.invariant
