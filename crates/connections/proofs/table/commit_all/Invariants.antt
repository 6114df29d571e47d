use Rattle.std.proofs.Common.{◌≡◌}
use Rattle.connections.specs.Connections.{committed}
use Rattle.connections.proofs.TableLemmas.{mapped}
use Rattle.connections.proofs.table.commit_all.Given as goal

abbrev pub invariant-loop-at : goal.invariant-loop-at
invariant-loop-at l = l.slots ≡ mapped committed l.at l.fn.slots
