use Rattle.std.proofs.Common.{refl, arith}
use Rattle.std.proofs.lemmas.List.{set-get_or}
use Rattle.connections.specs.Connections.{Ended, MayRead}
use Rattle.connections.proofs.TableLemmas.{none_at, written}
use Rattle.connections.proofs.table.end.Goals as goal

pub returns-then-not-may_read : goal.returns-then-not-may_read
returns-then-not-may_read c = (
  set-get_or c.args.slots.now c.args.at c.index-slots-at.result,
  none_at MayRead c.args.slots.now c.args.at c.index-slots-at.result (omega (arith, c.if-at-slots.false)) (λ h. c.if-not-may_read.ensures.may_not refl h),
)

pub returns : goal.returns
returns c =
    written c.args.at Ended c.args.slots.now c.index-slots-at.result c.end.new.self (omega (arith, c.if-at-slots.false)) c.end.ensures tt
