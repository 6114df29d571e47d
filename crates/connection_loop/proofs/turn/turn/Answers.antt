use Rattle.std.proofs.Common.{Bool, true, false, subst}
use Rattle.connections.specs.Steps.{Notes, Steps}
use Rattle.connection_loop.specs.Happenings.{entries_of}
use Rattle.connection_loop.specs.Phases.{Goes, Moves, State}
use Rattle.connection_loop.specs.Turns.{IsAnswering, IsClearing, IsWaiting, IsIncoming, IsOutgoing}
use Rattle.connection_loop.specs.declared.course.Course.{Course}
use Rattle.connection_loop.proofs.GoesLemmas.{goes_answered, goes_outer, outer_ready}
use Rattle.connection_loop.proofs.LoopLemmas.{waited}
use Rattle.connection_loop.proofs.turn.turn.Goals as goal

pub returns-in-Err-clause-goes : goal.returns-in-Err-clause-goes
returns-in-Err-clause-goes g c =
    let s = g.S.Service in
    let start : Course = c.args.course.now in
    let table = c.args.slots.now in
    let mid : Course = record start { busy = false; nobody = false; failed = false; sought = false } in
    goes_outer s.answers s.lines s.commits s.commit_fails g.L.Log.writes g.L.Log.cuts g.N.Sockets.does (IsWaiting c.args.limits.now false)
    start mid table table c.args.sockets.now c.wait.new.self c.args.service.now c.args.log.now
    (waited g.N.Sockets.does c.args.limits.now c.wait_of-millis.result false start table c.args.sockets.now c.wait.new.self
    c.wait_of-millis.ensures c.in-Err.ensures)

pub answer_round-requires : goal.answer_round-requires
answer_round-requires g c =
    let x = c.receive_all.ensures in
    let start : Course = c.args.course.now in
    let mid : Course = record start { busy = false; nobody = false; failed = false; sought = false } in
    outer_ready g.S.Service.is_unfinished c.tables_are_ready.ensures (entries_of mid x.happenings) c.args.slots.now c.receive_all.new.slots
    x.outer x.changes c.requires.ready

pub returns-then-answer_round-clause-goes : goal.returns-then-answer_round-clause-goes
returns-then-answer_round-clause-goes g c =
    let s = g.S.Service in
    let does = g.N.Sockets.does in
    let limits = c.args.limits.now in
    let start : Course = c.args.course.now in
    let mid : Course = record start { busy = false; nobody = false; failed = false; sought = false } in
    let table = c.args.slots.now in
    let service = c.args.service.now in
    let log = c.args.log.now in
    let woken = c.wait.new.self in
    let came = c.receive_all.new in
    let answered = c.answer_round.new in
    let last = c.clear.new in
    let one : State g.row.S.Denot g.row.L.Denot g.row.N.Denot = record { course = start; table = table; service = service; log = log; sockets = c.args.sockets.now } in
    let two : State g.row.S.Denot g.row.L.Denot g.row.N.Denot = record { course = mid; table = table; service = service; log = log; sockets = woken } in
    let three : State g.row.S.Denot g.row.L.Denot g.row.N.Denot = record { course = came.course; table = came.slots; service = service; log = log; sockets = came.sockets } in
    let four : State g.row.S.Denot g.row.L.Denot g.row.N.Denot = record { course = answered.course; table = answered.slots; service = answered.service; log = answered.log; sockets = came.sockets } in
    let five : State g.row.S.Denot g.row.L.Denot g.row.N.Denot = record { course = last.course; table = last.slots; service = answered.service; log = answered.log; sockets = last.sockets } in
    let waits : Moves does (IsWaiting limits true) start table c.args.sockets.now mid table woken =
    waited does limits c.wait_of-millis.result true start table c.args.sockets.now woken c.wait_of-millis.ensures c.in-Ok.ensures in
    goes_answered (Steps s.answers s.lines s.commits s.commit_fails) (Notes g.L.Log.writes g.L.Log.cuts) does limits s.is_unfinished true IsClearing one two three four five
    (goes_outer s.answers s.lines s.commits s.commit_fails g.L.Log.writes g.L.Log.cuts does (IsWaiting limits true) start mid table table c.args.sockets.now woken service log waits)
    (goes_outer s.answers s.lines s.commits s.commit_fails g.L.Log.writes g.L.Log.cuts does (IsIncoming limits) mid came.course table came.slots woken came.sockets service log c.receive_all.ensures)
    (subst (λ (b : Bool). Goes (Steps s.answers s.lines s.commits s.commit_fails) (Notes g.L.Log.writes g.L.Log.cuts) does (IsAnswering s.is_unfinished b) three four) c.if-answer_round.true c.answer_round.ensures.goes)
    (goes_outer s.answers s.lines s.commits s.commit_fails g.L.Log.writes g.L.Log.cuts does IsClearing answered.course last.course answered.slots last.slots came.sockets last.sockets answered.service answered.log c.clear.ensures)

pub returns-then-answer_round-clause-ready : goal.returns-then-answer_round-clause-ready
returns-then-answer_round-clause-ready g c =
    let x = c.clear.ensures in
    outer_ready g.S.Service.is_unfinished c.tables_are_ready.ensures (entries_of c.answer_round.new.course x.happenings) c.answer_round.new.slots c.clear.new.slots
    x.outer x.changes c.answer_round.ensures.ready

pub returns-clause-goes : goal.returns-clause-goes
returns-clause-goes g c =
    let s = g.S.Service in
    let does = g.N.Sockets.does in
    let limits = c.args.limits.now in
    let start : Course = c.args.course.now in
    let mid : Course = record start { busy = false; nobody = false; failed = false; sought = false } in
    let table = c.args.slots.now in
    let service = c.args.service.now in
    let log = c.args.log.now in
    let woken = c.wait.new.self in
    let came = c.receive_all.new in
    let answered = c.answer_round.new in
    let last = c.send_all.new in
    let one : State g.row.S.Denot g.row.L.Denot g.row.N.Denot = record { course = start; table = table; service = service; log = log; sockets = c.args.sockets.now } in
    let two : State g.row.S.Denot g.row.L.Denot g.row.N.Denot = record { course = mid; table = table; service = service; log = log; sockets = woken } in
    let three : State g.row.S.Denot g.row.L.Denot g.row.N.Denot = record { course = came.course; table = came.slots; service = service; log = log; sockets = came.sockets } in
    let four : State g.row.S.Denot g.row.L.Denot g.row.N.Denot = record { course = answered.course; table = answered.slots; service = answered.service; log = answered.log; sockets = came.sockets } in
    let five : State g.row.S.Denot g.row.L.Denot g.row.N.Denot = record { course = last.course; table = last.slots; service = answered.service; log = answered.log; sockets = last.sockets } in
    let waits : Moves does (IsWaiting limits true) start table c.args.sockets.now mid table woken =
    waited does limits c.wait_of-millis.result true start table c.args.sockets.now woken c.wait_of-millis.ensures c.in-Ok.ensures in
    goes_answered (Steps s.answers s.lines s.commits s.commit_fails) (Notes g.L.Log.writes g.L.Log.cuts) does limits s.is_unfinished false (IsOutgoing limits) one two three four five
    (goes_outer s.answers s.lines s.commits s.commit_fails g.L.Log.writes g.L.Log.cuts does (IsWaiting limits true) start mid table table c.args.sockets.now woken service log waits)
    (goes_outer s.answers s.lines s.commits s.commit_fails g.L.Log.writes g.L.Log.cuts does (IsIncoming limits) mid came.course table came.slots woken came.sockets service log c.receive_all.ensures)
    (subst (λ (b : Bool). Goes (Steps s.answers s.lines s.commits s.commit_fails) (Notes g.L.Log.writes g.L.Log.cuts) does (IsAnswering s.is_unfinished b) three four) c.if-answer_round.false c.answer_round.ensures.goes)
    (goes_outer s.answers s.lines s.commits s.commit_fails g.L.Log.writes g.L.Log.cuts does (IsOutgoing limits) answered.course last.course answered.slots last.slots came.sockets last.sockets answered.service answered.log c.send_all.ensures)

pub returns-clause-ready : goal.returns-clause-ready
returns-clause-ready g c =
    let x = c.send_all.ensures in
    outer_ready g.S.Service.is_unfinished c.tables_are_ready.ensures (entries_of c.answer_round.new.course x.happenings) c.answer_round.new.slots c.send_all.new.slots
    x.outer x.changes c.answer_round.ensures.ready
