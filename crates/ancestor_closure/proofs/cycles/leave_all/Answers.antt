use Rattle.std.proofs.Common.{◌∙◌, [], ◌∷◌, ◌++◌, take, sym, ap, subst}
use Rattle.std.proofs.lemmas.List.{take_more, take_all}
use Rattle.ancestor_closure.specs.Lists.{ancestors_in}
use Rattle.ancestor_closure.specs.inner.OneChange.{Leaves}
use Rattle.ancestor_closure.proofs.OneByOne.{leaves_none, leaves_more}
use Rattle.ancestor_closure.proofs.cycles.leave_all.Goals as goal

pub loop-entity-init : goal.loop-entity-init
loop-entity-init c = leaves_none (ancestors_in c.args.relatives.now) c.args.cyclic.now.keys

pub leave-requires : goal.leave-requires
leave-requires c = c.requires c.entity-item.result (c.loop-entity.entity-index, c.loop-entity-test.true, sym c.entity-item.is)

pub loop-entity-preserved : goal.loop-entity-preserved
loop-entity-preserved c =
    let e = c.entity-item.result in
    let es = take c.loop-entity.entity-index c.args.entities.now in
    let more = take_more c.args.entities.now c.loop-entity.entity-index e c.loop-entity-test.true ∙ ap (λ z. es ++ z ∷ []) (sym c.entity-item.is) in
    subst (λ l. Leaves l (ancestors_in c.args.relatives.now) c.args.cyclic.now.keys c.leave.new.cyclic.keys) (sym more)
    (leaves_more es (ancestors_in c.args.relatives.now) e c.args.cyclic.now.keys c.loop-entity.cyclic.keys c.leave.new.cyclic.keys c.loop-entity.invariant c.leave.ensures)

pub returns : goal.returns
returns c =
    subst (λ l. Leaves l (ancestors_in c.args.relatives.now) c.args.cyclic.now.keys c.loop-entity.cyclic.keys) (take_all _ c.args.entities.now c.loop-entity-test.false) c.loop-entity.invariant
