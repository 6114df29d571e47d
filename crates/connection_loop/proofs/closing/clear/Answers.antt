use Rattle.connections.specs.declared.slot.Reason.TheVariants as Reasons
use Rattle.connection_loop.specs.Phases.{Each, Then}
use Rattle.connection_loop.specs.Turns.{IsClosedAt}
use Rattle.connection_loop.proofs.LoopLemmas.{moves_then}
use Rattle.connection_loop.proofs.closing.clear.Goals as goal

pub returns : goal.returns
returns g c =
    let one = c.close_each.new in
    let two = c.close_each-2.new in
    let three = c.close_each-3.new in
    moves_then g.N.Sockets.does (Each (IsClosedAt Reasons.Over)) (Then (Each (IsClosedAt Reasons.Unlogged)) (Each (IsClosedAt Reasons.Uncommitted)))
    c.args.course.now one.course three.course c.args.slots.now one.slots three.slots c.args.sockets.now one.sockets three.sockets
    c.close_each.ensures
    (moves_then g.N.Sockets.does (Each (IsClosedAt Reasons.Unlogged)) (Each (IsClosedAt Reasons.Uncommitted))
    one.course two.course three.course one.slots two.slots three.slots one.sockets two.sockets three.sockets
    c.close_each-2.ensures c.close_each-3.ensures)
