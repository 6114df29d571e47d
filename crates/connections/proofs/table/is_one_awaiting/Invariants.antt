use Rattle.connections.specs.Connections.{AwaitsAnswer}
use Rattle.connections.proofs.TableLemmas.{HasNoneBelow}
use Rattle.connections.proofs.table.is_one_awaiting.Given as goal

abbrev pub invariant-loop-slot : goal.invariant-loop-slot
invariant-loop-slot l = HasNoneBelow AwaitsAnswer l.slots l.slot-index
