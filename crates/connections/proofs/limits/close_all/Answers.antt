use Rattle.std.proofs.Common.{arith}
use Rattle.connections.proofs.LimitLemmas.{all_closed, closed, start}
use Rattle.connections.proofs.limits.close_all.Goals as goal

pub loop-at-init : goal.loop-at-init
loop-at-init c = start c.args.why c.args.slots.now

pub loop-at-preserved : goal.loop-at-preserved
loop-at-preserved c =
    closed c.args.why c.args.slots.now c.loop-at.at c.close.result c.loop-at.slots c.close.new.slots c.loop-at.invariant c.close.ensures

pub returns : goal.returns
returns c =
    let so = c.loop-at.invariant in (
      so.entries,
      so.changes,
      all_closed c.args.why c.args.slots.now c.loop-at.at c.loop-at.slots so (omega (arith, c.loop-at-test.false)),
    )
