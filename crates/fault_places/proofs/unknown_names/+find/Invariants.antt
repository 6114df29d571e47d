use Rattle.std.proofs.Common.{◌≡◌, ◌-◌, length, take}
use Rattle.std.specs.Prelude.{All}
use Rattle.grammar_core.specs.Size.{height}
use Rattle.type_checker.specs.schema.Views.{schema_view}
use Rattle.typing.specs.Places.{operands_of}
use Rattle.fault_places.proofs.UnknownNames.{AreKnown}
use Rattle.fault_places.proofs.unknown_names.+find.Given as goal

-- the names of the operands so far are known
abbrev pub invariant-each : goal.invariant-each
invariant-each l =
    (l.path.items ≡ l.fn.path.items) × All (AreKnown (schema_view l.schema)) (take l.at (operands_of l.expr))

abbrev pub decreases-each : goal.decreases-each
decreases-each l = length (operands_of l.expr) - l.at

abbrev pub decreases-find : goal.decreases-find
decreases-find l = height l.expr.now
