use Rattle.std.specs.Prelude.{◌≡◌}
use Rattle.machine.specs.Streams.{streams}
use Rattle.machine.proofs.watch.Watch.finish.Given as goal

abbrev pub invariant-loop : goal.invariant-loop
invariant-loop g l = streams l.peers ≡ streams l.fn.peers
