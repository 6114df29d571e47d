use Rattle.connections.proofs.LogLemmas.{SoFar}
use Rattle.connections.proofs.table.log_all.Given as goal

abbrev pub invariant-loop-at : goal.invariant-loop-at
invariant-loop-at g l = SoFar g.L.Log.writes g.L.Log.cuts l.fn.slots l.fn.log l.at l.slots l.log
