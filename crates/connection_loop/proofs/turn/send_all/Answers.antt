use Rattle.connection_loop.specs.Phases.{Each, Then}
use Rattle.connection_loop.specs.Turns.{IsClearing, IsLimiting, IsSentAt, IsTold}
use Rattle.connection_loop.specs.declared.course.Course.{Course}
use Rattle.connection_loop.proofs.LoopLemmas.{moves_then, told}
use Rattle.connection_loop.proofs.turn.send_all.Goals as goal

pub returns : goal.returns
returns g c =
    let does = g.N.Sockets.does in
    let limits = c.args.limits.now in
    let table = c.args.slots.now in
    let start : Course = record c.args.course.now { clock = c.now-course.result } in
    let read = c.now-course.new.self in
    let sent = c.write_each.new in
    let cleared = c.clear.new in
    let last = c.limit_all.new in
    moves_then does IsTold (Then (Each IsSentAt) (Then IsClearing (IsLimiting limits)))
    c.args.course.now start last.course table table last.slots c.args.sockets.now read last.sockets
    (told does c.now-course.result c.args.course.now table c.args.sockets.now read c.now-course.ensures)
    (moves_then does (Each IsSentAt) (Then IsClearing (IsLimiting limits))
    start sent.course last.course table sent.slots last.slots read sent.sockets last.sockets
    c.write_each.ensures
    (moves_then does IsClearing (IsLimiting limits)
    sent.course cleared.course last.course sent.slots cleared.slots last.slots sent.sockets cleared.sockets last.sockets
    c.clear.ensures c.limit_all.ensures))
