use Rattle.std.proofs.Common.{◌∙◌, length, refl, sym, subst, arith}
use Rattle.std.proofs.lemmas.Option.{slice_get_read}
use Rattle.connections.specs.Connections.{AwaitsAnswer}
use Rattle.connections.proofs.TableLemmas.{none_below, none_in_all, none_more, some_is}
use Rattle.connections.proofs.table.is_one_awaiting.Goals as goal

pub loop-slot-init : goal.loop-slot-init
loop-slot-init c = none_below AwaitsAnswer c.args.slots.now

pub loop-slot-preserved : goal.loop-slot-preserved
loop-slot-preserved c =
    let slots = c.args.slots.now in
    let i = c.loop-slot.slot-index in
    let found = slice_get_read slots (length slots) i c.slot-item.result refl c.loop-slot-test.true c.slot-item.is in
    none_more AwaitsAnswer slots i c.loop-slot.invariant
    (λ d here h. c.if-awaits_answer.ensures.no refl (subst AwaitsAnswer (some_is (sym here ∙ found)) h))

pub returns-then-awaits_answer-clause-yes : goal.returns-then-awaits_answer-clause-yes
returns-then-awaits_answer-clause-yes c _ =
    let slots = c.args.slots.now in
    let i = c.loop-slot.slot-index in (
      i,
      c.slot-item.result,
      slice_get_read slots (length slots) i c.slot-item.result refl c.loop-slot-test.true c.slot-item.is,
      c.if-awaits_answer.ensures.yes refl,
    )

pub returns-clause-no : goal.returns-clause-no
returns-clause-no c _ = none_in_all AwaitsAnswer c.args.slots.now c.loop-slot.slot-index c.loop-slot.invariant (omega (arith, c.loop-slot-test.false))
