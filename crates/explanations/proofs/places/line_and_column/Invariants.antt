use Rattle.std.proofs.Common.{◌≡◌}
use Rattle.explanations.specs.LineAndColumn.{line_after, column_after}
use Rattle.explanations.proofs.places.line_and_column.Given as goal

abbrev pub invariant-loop-c : goal.invariant-loop-c
invariant-loop-c l = record { line : l.line ≡ line_after l.yielded; column : l.column ≡ column_after l.yielded }
