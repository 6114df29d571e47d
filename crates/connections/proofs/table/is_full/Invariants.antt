use Rattle.std.proofs.Common.{◌≡◌, ◌+◌, take}
use Rattle.connections.specs.Connections.{unsent}
use Rattle.connections.specs.declared.TheConstants.{MAX_UNSENT}
use Rattle.connections.proofs.table.is_full.Given as goal

abbrev pub invariant-loop-slot : goal.invariant-loop-slot
invariant-loop-slot l = l.left + unsent (take l.slot-index l.slots) ≡ MAX_UNSENT
