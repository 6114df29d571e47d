use Rattle.connection_loop.specs.Turns.{IsReadAt}
use Rattle.connection_loop.proofs.LoopLemmas.{each_more}
use Rattle.connection_loop.proofs.reading.read_each.Goals as goal

pub loop-at-preserved : goal.loop-at-preserved
loop-at-preserved g c =
    each_more g.N.Sockets.does (IsReadAt) c.loop-at.at c.args.course.now c.loop-at.course c.read_at.new.course
    c.args.slots.now c.loop-at.slots c.read_at.new.slots c.args.sockets.now c.loop-at.sockets c.read_at.new.sockets
    c.loop-at.invariant c.read_at.ensures
