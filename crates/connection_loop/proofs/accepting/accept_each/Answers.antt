use Rattle.connection_loop.specs.Turns.{IsAcceptedAt}
use Rattle.connection_loop.proofs.LoopLemmas.{each_more}
use Rattle.connection_loop.proofs.accepting.accept_each.Goals as goal

pub loop-at-preserved : goal.loop-at-preserved
loop-at-preserved g c =
    each_more g.N.Sockets.does (IsAcceptedAt c.args.limits.now) c.loop-at.at c.args.course.now c.loop-at.course c.accept_at.new.course
    c.args.slots.now c.loop-at.slots c.accept_at.new.slots c.args.sockets.now c.loop-at.sockets c.accept_at.new.sockets
    c.loop-at.invariant c.accept_at.ensures
