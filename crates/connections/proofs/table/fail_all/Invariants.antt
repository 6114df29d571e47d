use Rattle.std.proofs.Common.{◌≡◌}
use Rattle.connections.specs.Connections.{uncommitted}
use Rattle.connections.proofs.TableLemmas.{mapped}
use Rattle.connections.proofs.table.fail_all.Given as goal

abbrev pub invariant-loop-at : goal.invariant-loop-at
invariant-loop-at l = l.slots ≡ mapped uncommitted l.at l.fn.slots
