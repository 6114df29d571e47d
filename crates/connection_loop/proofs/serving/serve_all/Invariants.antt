use Rattle.connections.specs.Rounds.{AreReady}
use Rattle.connections.specs.Steps.{Notes, Steps}
use Rattle.connection_loop.specs.Phases.{Goes}
use Rattle.connection_loop.specs.Serving.{AreTurns, beginning}
use Rattle.connection_loop.proofs.serving.serve_all.Given as goal

abbrev pub invariant-loop-turns : goal.invariant-loop-turns
invariant-loop-turns g l =
    record {
      goes : Goes (Steps g.S.Service.answers g.S.Service.lines g.S.Service.commits g.S.Service.commit_fails) (Notes g.L.Log.writes g.L.Log.cuts) g.N.Sockets.does
          (AreTurns l.limits g.S.Service.is_unfinished l.turns)
          (record { course = beginning; table = l.fn.slots; service = l.fn.service; log = l.fn.log; sockets = l.fn.sockets })
          (record { course = l.course; table = l.slots; service = l.service; log = l.log; sockets = l.sockets });
      ready : AreReady g.S.Service.is_unfinished l.slots;
    }
