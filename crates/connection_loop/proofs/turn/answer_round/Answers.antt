use Rattle.std.proofs.Common.{ap, ◌∙◌}
use Rattle.connections.specs.Rounds.{next_slot}
use Rattle.connections.specs.Steps.{Notes, Steps}
use Rattle.connection_loop.proofs.GoesLemmas.{goes_round}
use Rattle.connection_loop.proofs.turn.answer_round.Goals as goal

pub returns-clause-goes : goal.returns-clause-goes
returns-clause-goes g c =
    let s = g.S.Service in
    let x = c.round-rounded.ensures.turns in
    let rounded = c.round-rounded.result in
    goes_round (Steps s.answers s.lines s.commits s.commit_fails) (Notes g.L.Log.writes g.L.Log.cuts) g.N.Sockets.does s.is_unfinished
    rounded.outcome rounded.end c.next.result x.0 c.args.course.now c.note_round.new.self c.args.slots.now c.round-rounded.new.slots
    c.args.service.now c.round-rounded.new.service c.args.log.now c.round-rounded.new.log c.args.sockets.now x.1 x.2 x.3
    (c.next.ensures ∙ ap (next_slot rounded.end) c.round-rounded.auto.slots) c.note_round.ensures c.is_lost.result c.is_lost.ensures
