use Rattle.std.proofs.Common.{◌≡◌, ◌<◌, ℕ, Some, false}
use Rattle.std.specs.Prelude.{slice_get}
use Rattle.connections.specs.Connections.{Connection}
use Rattle.connection_loop.proofs.serving.is_empty.Given as goal

abbrev pub invariant-loop-slot : goal.invariant-loop-slot
invariant-loop-slot l = (at : ℕ) (c : Connection) → at < l.slot-index → slice_get l.slots at ≡ Some c → c.is_open ≡ false
