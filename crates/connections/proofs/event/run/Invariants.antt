use Rattle.std.proofs.Common.{take}
use Rattle.connections.specs.Rounds.{AreReady}
use Rattle.connections.specs.Runs.{IsServed}
use Rattle.connections.specs.Steps.{Notes, Steps}
use Rattle.connections.proofs.event.run.Given as goal

abbrev pub invariant-loop-event : goal.invariant-loop-event
invariant-loop-event g l =
    record {
      served : IsServed (Steps g.S.Service.answers g.S.Service.lines g.S.Service.commits g.S.Service.commit_fails) (Notes g.L.Log.writes g.L.Log.cuts)
          g.S.Service.is_unfinished (take l.event-index l.events) l.fn.slots l.fn.service l.fn.log l.slots l.service l.log;
      ready : AreReady g.S.Service.is_unfinished l.slots;
    }
