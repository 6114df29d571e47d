use Rattle.connection_loop.specs.Phases.{Then}
use Rattle.connection_loop.specs.Turns.{IsExpiring, IsRelief, IsRoom}
use Rattle.connection_loop.proofs.LoopLemmas.{moves_then}
use Rattle.connection_loop.proofs.turn.limit_all.Goals as goal

pub returns : goal.returns
returns g c =
    let does = g.N.Sockets.does in
    let limits = c.args.limits.now in
    let expired = c.expire.new in
    let relieved = c.relieve.new in
    let last = c.make_room.new in
    moves_then does (IsExpiring limits) (Then (IsRelief limits) (IsRoom limits))
    c.args.course.now expired.course last.course c.args.slots.now expired.slots last.slots c.args.sockets.now expired.sockets last.sockets
    c.expire.ensures
    (moves_then does (IsRelief limits) (IsRoom limits)
    expired.course relieved.course last.course expired.slots relieved.slots last.slots expired.sockets relieved.sockets last.sockets
    c.relieve.ensures c.make_room.ensures)
