use Rattle.std.proofs.Common.{refl, arith}
use Rattle.std.proofs.lemmas.List.{set-get_or}
use Rattle.connections.specs.Connections.{Gone}
use Rattle.connections.specs.Made.{MayEnd}
use Rattle.connections.proofs.TableLemmas.{none_at, written}
use Rattle.connections.proofs.table.close.Goals as goal

pub returns-then-not-may_close : goal.returns-then-not-may_close
returns-then-not-may_close c = (
  set-get_or c.args.slots.now c.args.at c.index-slots-at.result,
  none_at (MayEnd c.args.why c.args.slots.now) c.args.slots.now c.args.at c.index-slots-at.result (omega (arith, c.if-at-slots.false)) (λ h. c.if-not-may_close.ensures.may_not refl h.0),
)

pub returns : goal.returns
returns c =
    let may = c.if-not-may_close.ensures.may refl in
    written c.args.at (Gone c.args.why) c.args.slots.now c.index-slots-at.result c.close.new.self (omega (arith, c.if-at-slots.false))
    (may.0, may.1, c.close.ensures) (c.if-not-is_called_for.ensures.yes refl)
