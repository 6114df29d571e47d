use Rattle.machine.specs.Calls.{TakesNothing}
use Rattle.machine.proofs.peers.write_once.Given as goal

abbrev pub invariant-loop : goal.invariant-loop
invariant-loop g l = TakesNothing g.S.Write.contents l.fn.stream l.stream
