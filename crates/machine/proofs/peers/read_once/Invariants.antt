use Rattle.std.specs.Prelude.{◌≡◌, length}
use Rattle.machine.specs.Calls.{GivesNothing}
use Rattle.machine.proofs.peers.read_once.Given as goal

abbrev pub invariant-loop : goal.invariant-loop
invariant-loop g l = GivesNothing g.S.Read.remaining l.fn.stream l.stream × (length l.buf ≡ length l.fn.buf)
