use Rattle.std.proofs.Common.{map}
use Rattle.schema_types.specs.inner.Rounds.{KeepsTable}
use Rattle.schema_types.specs.QualifiedViews.{resolved_common_view}
use Rattle.schema_types.proofs.commons.add_in_order.Given as goal

abbrev pub invariant-loop-place : goal.invariant-loop-place
invariant-loop-place l = KeepsTable (map resolved_common_view l.commons) l.fn.table l.table
