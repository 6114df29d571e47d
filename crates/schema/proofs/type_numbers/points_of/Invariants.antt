use Rattle.std.proofs.Common.{◌≡◌, map, take}
use Rattle.schema_reading.specs.ResolvedViews.{resolved_entity_type_view}
use Rattle.schema.specs.inner.Numbering.{type_points}
use Rattle.schema.proofs.type_numbers.points_of.Given as goal

abbrev pub invariant-loop-entity_type : goal.invariant-loop-entity_type
invariant-loop-entity_type l = l.uids.items ≡ type_points (map resolved_entity_type_view (take l.entity_type-index l.entity_types))
