use Rattle.connection_loop.specs.Phases.{Each, Then}
use Rattle.connection_loop.specs.Turns.{IsAcceptedAt, IsReadAt, IsTold}
use Rattle.connection_loop.specs.declared.course.Course.{Course}
use Rattle.connection_loop.proofs.LoopLemmas.{moves_then, told}
use Rattle.connection_loop.proofs.turn.receive_all.Goals as goal

pub returns : goal.returns
returns g c =
    let does = g.N.Sockets.does in
    let limits = c.args.limits.now in
    let table = c.args.slots.now in
    let start : Course = record c.args.course.now { clock = c.now-course.result } in
    let woken = c.now-course.new.self in
    let accepted = c.accept_each.new in
    let last = c.read_each.new in
    moves_then does IsTold (Then (Each (IsAcceptedAt limits)) (Each IsReadAt))
    c.args.course.now start last.course table table last.slots c.args.sockets.now woken last.sockets
    (told does c.now-course.result c.args.course.now table c.args.sockets.now woken c.now-course.ensures)
    (moves_then does (Each (IsAcceptedAt limits)) (Each IsReadAt)
    start accepted.course last.course table accepted.slots last.slots woken accepted.sockets last.sockets c.accept_each.ensures c.read_each.ensures)
