use Rattle.connection_loop.specs.Turns.{IsSentAt}
use Rattle.connection_loop.proofs.LoopLemmas.{each_more}
use Rattle.connection_loop.proofs.writing.write_each.Goals as goal

pub loop-at-preserved : goal.loop-at-preserved
loop-at-preserved g c =
    each_more g.N.Sockets.does (IsSentAt) c.loop-at.at c.args.course.now c.loop-at.course c.write_at.new.course
    c.args.slots.now c.loop-at.slots c.write_at.new.slots c.args.sockets.now c.loop-at.sockets c.write_at.new.sockets
    c.loop-at.invariant c.write_at.ensures
