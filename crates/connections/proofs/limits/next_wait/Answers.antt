use Rattle.std.proofs.Common.{◌+◌, ℕ, length, refl, sym, subst, arith}
use Rattle.std.specs.Prelude.{Option}
use Rattle.std.proofs.lemmas.Option.{slice_get_read}
use Rattle.connections.specs.Limits.{IsFirstAfter}
use Rattle.connections.proofs.LimitLemmas.{IsOneBelow, all_below, none_below, one_more}
use Rattle.connections.proofs.limits.next_wait.Goals as goal

pub loop-slot-init : goal.loop-slot-init
loop-slot-init c = none_below c.args.limit c.args.slots.now c.args.now

pub loop-slot-preserved : goal.loop-slot-preserved
loop-slot-preserved c =
    let slots = c.args.slots.now in
    let i = c.loop-slot.slot-index in
    let found = slice_get_read slots (length slots) i c.slot-item.result refl c.loop-slot-test.true c.slot-item.is in
    subst (λ (w : Option ℕ). IsFirstAfter c.args.now (IsOneBelow c.args.limit slots (i + 1)) w) (sym c.sooner-wait.ensures)
    (one_more c.args.limit slots c.args.now i c.slot-item.result c.loop-slot.wait c.wait.result found c.loop-slot.invariant c.wait.ensures)

pub returns : goal.returns
returns c =
    all_below c.args.limit c.args.slots.now c.args.now c.loop-slot.slot-index c.loop-slot.wait (omega (arith, c.loop-slot-test.false)) c.loop-slot.invariant
