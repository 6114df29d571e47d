use Rattle.std.proofs.Common.{arith}
use Rattle.std.proofs.lemmas.List.{set-get_or}
use Rattle.connections.specs.Connections.{Opened}
use Rattle.connections.specs.Made.{IsFree}
use Rattle.connections.proofs.TableLemmas.{none_at, written}
use Rattle.connections.proofs.table.open.Goals as goal

pub returns-then-is_open : goal.returns-then-is_open
returns-then-is_open c = (
  set-get_or c.args.slots.now c.args.at c.index-slots-at.result,
  none_at IsFree c.args.slots.now c.args.at c.index-slots-at.result (omega (arith, c.if-at-slots.false)) (λ h. cc),
)

pub returns : goal.returns
returns c =
    written c.args.at (Opened c.args.now) c.args.slots.now c.index-slots-at.result c.open.new.self (omega (arith, c.if-at-slots.false)) c.open.ensures tt
