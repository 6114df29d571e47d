use Rattle.std.proofs.Common.{◌≡◌, length}
use Rattle.connections.specs.Stories.{AreFree}
use Rattle.connections.proofs.table.new_table.Given as goal

abbrev pub invariant-loop : goal.invariant-loop
invariant-loop l = record { free : AreFree l.slots.items; count : length l.slots.items ≡ l.counter }
