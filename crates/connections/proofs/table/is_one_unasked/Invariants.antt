use Rattle.connections.specs.Made.{IsUnasked}
use Rattle.connections.proofs.TableLemmas.{HasNoneBelow}
use Rattle.connections.proofs.table.is_one_unasked.Given as goal

abbrev pub invariant-loop-at : goal.invariant-loop-at
invariant-loop-at l = HasNoneBelow (IsUnasked l.slots) l.slots l.at
