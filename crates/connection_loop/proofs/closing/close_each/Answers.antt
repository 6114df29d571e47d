use Rattle.connection_loop.specs.Turns.{IsClosedAt}
use Rattle.connection_loop.proofs.LoopLemmas.{each_more}
use Rattle.connection_loop.proofs.closing.close_each.Goals as goal

pub loop-at-preserved : goal.loop-at-preserved
loop-at-preserved g c =
    each_more g.N.Sockets.does (IsClosedAt c.args.why) c.loop-at.at c.args.course.now c.loop-at.course c.close_at.new.course
    c.args.slots.now c.loop-at.slots c.close_at.new.slots c.args.sockets.now c.loop-at.sockets c.close_at.new.sockets
    c.loop-at.invariant c.close_at.ensures
