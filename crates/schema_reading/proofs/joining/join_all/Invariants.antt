use Rattle.std.proofs.Common.{◌≡◌, map}
use Rattle.schema_reading.specs.Qualifying.{both, together}
use Rattle.schema_reading.specs.ResolvedViews.{resolved_view}
use Rattle.schema_reading.proofs.joining.join_all.Given as goal

abbrev pub invariant-loop-part : goal.invariant-loop-part
invariant-loop-part l = both (resolved_view l.whole) (together (map resolved_view l.part-iterator.rest.items)) ≡ together (map resolved_view l.fn.parts)
