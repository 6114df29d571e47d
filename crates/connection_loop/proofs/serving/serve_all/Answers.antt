use Rattle.std.proofs.Common.{◌≡◌, Ok, Err, refl, inl, inr, arith}
use Rattle.std.specs.Prelude.{Result}
use Rattle.connections.specs.Steps.{Notes, Steps}
use Rattle.connection_loop.specs.Phases.{Phase, State, Then}
use Rattle.connection_loop.specs.Serving.{AreTurns, IsNext, IsRun, beginning}
use Rattle.connection_loop.specs.Turns.{IsTurn}
use Rattle.connection_loop.specs.declared.TheConstants.{MOST}
use Rattle.connection_loop.specs.declared.turn.LoopFault.{LoopFault}
use Rattle.connection_loop.specs.declared.turn.LoopFault.TheVariants as faults
use Rattle.connection_loop.proofs.GoesLemmas.{goes_more, goes_then}
use Rattle.connection_loop.proofs.ServedLemmas.{all_accepted, goes_as, served}
use Rattle.connection_loop.proofs.serving.serve_all.Goals as goal

pub loop-turns-preserved : goal.loop-turns-preserved
loop-turns-preserved g c =
    let s = g.S.Service in
    let steps = Steps s.answers s.lines s.commits s.commit_fails in
    let notes = Notes g.L.Log.writes g.L.Log.cuts in
    let does = g.N.Sockets.does in
    let limits = c.args.limits.now in
    let l = c.loop-turns in
    let old : State g.row.S.Denot g.row.L.Denot g.row.N.Denot = record { course = beginning; table = c.args.slots.now; service = c.args.service.now; log = c.args.log.now; sockets = c.args.sockets.now } in
    let n = c.turn.new in
    let mid : State g.row.S.Denot g.row.L.Denot g.row.N.Denot = record { course = l.course; table = l.slots; service = l.service; log = l.log; sockets = l.sockets } in
    let new : State g.row.S.Denot g.row.L.Denot g.row.N.Denot = record { course = n.course; table = n.slots; service = n.service; log = n.log; sockets = n.sockets } in
    let next : Phase = IsNext limits s.is_unfinished (Ok tt) in
    record {
      goes = goes_more steps notes does (λ turn. next) l.turns old mid new l.invariant.goes
          (goes_as steps notes does (IsTurn limits s.is_unfinished (Ok tt)) next mid new (λ hs h. (c.if-are_all_gone.ensures.not_gone refl, h)) c.in-Ok.ensures.goes);
      ready = c.turn.ensures.ready;
    }

pub returns-then-are_all_gone : goal.returns-then-are_all_gone
returns-then-are_all_gone g c =
    let s = g.S.Service in
    let steps = Steps s.answers s.lines s.commits s.commit_fails in
    let notes = Notes g.L.Log.writes g.L.Log.cuts in
    let does = g.N.Sockets.does in
    let limits = c.args.limits.now in
    let l = c.loop-turns in
    let old : State g.row.S.Denot g.row.L.Denot g.row.N.Denot = record { course = beginning; table = c.args.slots.now; service = c.args.service.now; log = c.args.log.now; sockets = c.args.sockets.now } in
    let new : State g.row.S.Denot g.row.L.Denot g.row.N.Denot = record { course = l.course; table = l.slots; service = l.service; log = l.log; sockets = l.sockets } in
    let gone = c.if-are_all_gone.ensures.gone refl in
    let run = goes_as steps notes does (AreTurns limits s.is_unfinished l.turns) (IsRun limits s.is_unfinished l.turns (Ok tt)) old new (λ hs h. h) l.invariant.goes in (
      l.course,
      served steps notes does c.stories_fit.ensures c.tables_are_bounded.ensures s.is_unfinished limits l.turns old new (Ok tt) c.requires.free run
          (all_accepted limits l.course run.happenings run.course gone.0, gone.1),
    )

pub returns-in-Err : goal.returns-in-Err
returns-in-Err g c =
    let s = g.S.Service in
    let steps = Steps s.answers s.lines s.commits s.commit_fails in
    let notes = Notes g.L.Log.writes g.L.Log.cuts in
    let does = g.N.Sockets.does in
    let limits = c.args.limits.now in
    let l = c.loop-turns in
    let old : State g.row.S.Denot g.row.L.Denot g.row.N.Denot = record { course = beginning; table = c.args.slots.now; service = c.args.service.now; log = c.args.log.now; sockets = c.args.sockets.now } in
    let n = c.turn.new in
    let mid : State g.row.S.Denot g.row.L.Denot g.row.N.Denot = record { course = l.course; table = l.slots; service = l.service; log = l.log; sockets = l.sockets } in
    let new : State g.row.S.Denot g.row.L.Denot g.row.N.Denot = record { course = n.course; table = n.slots; service = n.service; log = n.log; sockets = n.sockets } in
    let result : Result (Unit {0}) LoopFault = Err c.in-Err.fault in
    let turns : Phase = AreTurns limits s.is_unfinished l.turns in
    let next : Phase = IsNext limits s.is_unfinished result in
    let last = goes_as steps notes does (IsTurn limits s.is_unfinished result) next mid new (λ hs h. (c.if-are_all_gone.ensures.not_gone refl, h)) c.in-Err.ensures.goes in
    let all = goes_then steps notes does turns next old mid new l.invariant.goes last in
    let run = goes_as steps notes does (Then turns next) (IsRun limits s.is_unfinished l.turns result) old new (λ hs h. inl h) all in (
      n.course,
      served steps notes does c.stories_fit.ensures c.tables_are_bounded.ensures s.is_unfinished limits l.turns old new result c.requires.free run tt,
    )

pub returns : goal.returns
returns g c =
    let s = g.S.Service in
    let steps = Steps s.answers s.lines s.commits s.commit_fails in
    let notes = Notes g.L.Log.writes g.L.Log.cuts in
    let does = g.N.Sockets.does in
    let limits = c.args.limits.now in
    let l = c.loop-turns in
    let old : State g.row.S.Denot g.row.L.Denot g.row.N.Denot = record { course = beginning; table = c.args.slots.now; service = c.args.service.now; log = c.args.log.now; sockets = c.args.sockets.now } in
    let new : State g.row.S.Denot g.row.L.Denot g.row.N.Denot = record { course = l.course; table = l.slots; service = l.service; log = l.log; sockets = l.sockets } in
    let result : Result (Unit {0}) LoopFault = Err faults.Network in
    let most : l.turns ≡ MOST = omega (arith, c.loop-turns-test.false, l.auto.turns-end) in
    let run = goes_as steps notes does (AreTurns limits s.is_unfinished l.turns) (IsRun limits s.is_unfinished l.turns result) old new (λ hs h. inr (refl, most, h)) l.invariant.goes in (
      l.course,
      served steps notes does c.stories_fit.ensures c.tables_are_bounded.ensures s.is_unfinished limits l.turns old new result c.requires.free run tt,
    )
