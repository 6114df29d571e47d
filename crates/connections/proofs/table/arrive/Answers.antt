use Rattle.std.proofs.Common.{refl, arith}
use Rattle.std.proofs.lemmas.List.{set-get_or}
use Rattle.connections.specs.Connections.{Came}
use Rattle.connections.specs.Made.{MayReadBytes}
use Rattle.connections.proofs.TableLemmas.{none_at, written}
use Rattle.connections.proofs.table.arrive.Goals as goal

pub returns-then-not-may_read_bytes : goal.returns-then-not-may_read_bytes
returns-then-not-may_read_bytes c = (
  set-get_or c.args.slots.now c.args.at c.index-slots-at.result,
  none_at (MayReadBytes c.args.bytes.now) c.args.slots.now c.args.at c.index-slots-at.result (omega (arith, c.if-at-slots.false))
      (λ h. c.if-not-may_read_bytes.ensures.may_not refl h),
)

pub returns : goal.returns
returns c =
    written c.args.at (Came c.args.bytes.now c.args.now) c.args.slots.now c.index-slots-at.result c.arrive.new.self (omega (arith, c.if-at-slots.false)) c.arrive.ensures tt
