use Rattle.connections.specs.Rounds.{AreReady}
use Rattle.test_connections.specs.Long.{IsShort}
use Rattle.test_connections.proofs.tables.filled.Given as goal

abbrev pub invariant-loop-turn : goal.invariant-loop-turn
invariant-loop-turn l = AreReady IsShort l.slots
