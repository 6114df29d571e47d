use Rattle.std.specs.Prelude.{◌≡◌, None, replicate}
use Rattle.machine.specs.Streams.{streams}
use Rattle.machine.proofs.sockets.free_slots.Given as goal

abbrev pub invariant-loop : goal.invariant-loop
invariant-loop g l = streams l.peers.items ≡ replicate l.counter None
