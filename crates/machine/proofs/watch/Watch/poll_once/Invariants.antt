use Rattle.std.specs.Prelude.{◌≡◌}
use Rattle.machine.specs.Streams.{streams}
use Rattle.machine.proofs.watch.Watch.poll_once.Given as goal

abbrev pub invariant-loop-event : goal.invariant-loop-event
invariant-loop-event g l = streams l.peers ≡ streams l.fn.peers
