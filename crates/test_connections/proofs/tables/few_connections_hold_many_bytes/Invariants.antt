use Rattle.connections.specs.Rounds.{AreReady}
use Rattle.test_connections.specs.Long.{IsShort}
use Rattle.test_connections.proofs.tables.few_connections_hold_many_bytes.Given as goal

abbrev pub invariant-loop-at : goal.invariant-loop-at
invariant-loop-at g l = AreReady IsShort l.slots.items
