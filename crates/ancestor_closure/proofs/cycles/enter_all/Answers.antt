use Rattle.std.proofs.Common.{◌∙◌, [], ◌∷◌, ◌++◌, take, sym, ap, subst}
use Rattle.std.proofs.lemmas.List.{take_more, take_all}
use Rattle.ancestor_search.specs.Deciding.{Contains-none}
use Rattle.ancestor_closure.specs.inner.OneChange.{IsInOwn}
use Rattle.ancestor_closure.proofs.OneByOne.{enters_none, enters_more, entered_more}
use Rattle.ancestor_closure.proofs.cycles.enter_all.Goals as goal

pub loop-entity-init : goal.loop-entity-init
loop-entity-init c = record { enters = enters_none c.args.lists.now c.args.cyclic.now.keys; entered = λ x h. Contains-none (x, h.0) h.1 }

pub enter-requires : goal.enter-requires
enter-requires c =
    let e = c.entity-item.result in
    c.requires e.0 e.1 (c.loop-entity.entity-index, c.loop-entity-test.true, sym c.entity-item.is)

pub returns-in_err-enter-clause-enters : goal.returns-in_err-enter-clause-enters
returns-in_err-enter-clause-enters c =
    let e = c.entity-item.result in
    enters_more c.args.lists.now e c.args.cyclic.now.keys c.loop-entity.cyclic.keys c.enter.new.cyclic.keys (c.loop-entity.entity-index, c.loop-entity-test.true, sym c.entity-item.is)
    c.loop-entity.invariant.enters c.enter.ensures.enters

pub loop-entity-preserved : goal.loop-entity-preserved
loop-entity-preserved c =
    let e = c.entity-item.result in
    let es = take c.loop-entity.entity-index c.args.lists.now in
    let more = take_more c.args.lists.now c.loop-entity.entity-index e c.loop-entity-test.true ∙ ap (λ z. es ++ z ∷ []) (sym c.entity-item.is) in
    record {
      enters = enters_more c.args.lists.now e c.args.cyclic.now.keys c.loop-entity.cyclic.keys c.enter.new.cyclic.keys (c.loop-entity.entity-index, c.loop-entity-test.true, sym c.entity-item.is)
          c.loop-entity.invariant.enters c.enter.ensures.enters;
      entered = λ x own. entered_more es e c.loop-entity.cyclic.keys c.enter.new.cyclic.keys c.loop-entity.invariant.entered c.enter.ensures.enters.kept c.in_ok-enter.ensures.entered x
          (subst (λ l. IsInOwn l x) more own);
    }

pub returns-clause-entered : goal.returns-clause-entered
returns-clause-entered c = λ x own. c.loop-entity.invariant.entered x (subst (λ l. IsInOwn l x) (sym (take_all _ c.args.lists.now c.loop-entity-test.false)) own)
