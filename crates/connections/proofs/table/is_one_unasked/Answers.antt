use Rattle.std.proofs.Common.{false, get_or, refl, arith}
use Rattle.std.proofs.lemmas.Option.{slice_get-get_or}
use Rattle.connections.specs.Connections.{fresh}
use Rattle.connections.specs.Made.{IsUnasked}
use Rattle.connections.proofs.TableLemmas.{none_below, none_in_all, none_more}
use Rattle.connections.proofs.table.is_one_unasked.Goals as goal

pub loop-at-init : goal.loop-at-init
loop-at-init c = none_below (IsUnasked c.args.slots.now) c.args.slots.now

pub loop-at-preserved : goal.loop-at-preserved
loop-at-preserved c =
    let slots = c.args.slots.now in
    none_more (IsUnasked slots) slots c.loop-at.at c.loop-at.invariant (c.if-is_unasked.ensures.no refl)

pub returns-then-is_unasked-clause-yes : goal.returns-then-is_unasked-clause-yes
returns-then-is_unasked-clause-yes c _ =
    let slots = c.args.slots.now in
    let at = c.loop-at.at in
    let found = slice_get-get_or slots at (fresh false 0) c.loop-at-test.true in
    (at, get_or slots at (fresh false 0), found, c.if-is_unasked.ensures.yes refl (get_or slots at (fresh false 0)) found)

pub returns-clause-no : goal.returns-clause-no
returns-clause-no c _ =
    none_in_all (IsUnasked c.args.slots.now) c.args.slots.now c.loop-at.at c.loop-at.invariant (omega (arith, c.loop-at-test.false))
