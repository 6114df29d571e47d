use Rattle.std.proofs.Common.{refl, arith}
use Rattle.std.proofs.lemmas.List.{set-get_or}
use Rattle.connections.specs.Connections.{Asked, MayAsk}
use Rattle.connections.proofs.TableLemmas.{none_at, written}
use Rattle.connections.proofs.table.ask.Goals as goal

pub returns-then-not-may_ask : goal.returns-then-not-may_ask
returns-then-not-may_ask c = (
  set-get_or c.args.slots.now c.args.at c.index-slots-at.result,
  none_at MayAsk c.args.slots.now c.args.at c.index-slots-at.result (omega (arith, c.if-at-slots.false)) (λ h. c.if-not-may_ask.ensures.may_not refl h),
)

pub returns : goal.returns
returns c =
    written c.args.at (Asked c.args.now) c.args.slots.now c.index-slots-at.result c.ask.new.self (omega (arith, c.if-at-slots.false)) c.ask.ensures tt
