use Rattle.std.proofs.Common.{arith}
use Rattle.connections.proofs.LogLemmas.{all_logged, ended, noted, start}
use Rattle.connections.proofs.table.log_all.Goals as goal

pub loop-at-init : goal.loop-at-init
loop-at-init g c = start g.L.Log.writes g.L.Log.cuts c.args.slots.now c.args.log.now c.requires

pub loop-at-preserved : goal.loop-at-preserved
loop-at-preserved g c =
    noted g.L.Log.writes g.L.Log.cuts c.args.slots.now c.args.log.now c.loop-at.at c.loop-at.slots c.log_at.new.slots c.loop-at.log c.log_at.new.log
    c.loop-at.invariant c.log_at.ensures

pub returns-clause-lines : goal.returns-clause-lines
returns-clause-lines g c =
    let so = c.loop-at.invariant in (
      so.entries,
      so.changes,
      so.chain,
      so.all,
      all_logged g.L.Log.writes g.L.Log.cuts c.args.slots.now c.args.log.now c.loop-at.at c.loop-at.slots c.loop-at.log so (omega (arith, c.loop-at-test.false)),
    )

pub returns-clause-settled : goal.returns-clause-settled
returns-clause-settled g c =
    ended g.L.Log.writes g.L.Log.cuts c.args.slots.now c.args.log.now c.loop-at.at c.loop-at.slots c.loop-at.log c.loop-at.invariant
    (omega (arith, c.loop-at-test.false))
