use Rattle.std.proofs.Common.{◌≡◌, map, take, Ok}
use Rattle.json_words.specs.Each.{each}
use Rattle.schema_types.specs.NamesViews.{scope_of}
use Rattle.schema_reading.specs.inner.StatedViews.{entity_type_view}
use Rattle.schema_reading.specs.ResolvedViews.{resolved_entity_type_view}
use Rattle.schema_reading.specs.Qualifying.{qualified_entity_type}
use Rattle.schema_reading.proofs.qualifying.qualify_entity_types.Given as goal

abbrev pub invariant-loop-item : goal.invariant-loop-item
invariant-loop-item l = each (λ i x. qualified_entity_type (scope_of l.names) l.own x) 0 (map entity_type_view (take l.item-index l.stated)) ≡ Ok (map resolved_entity_type_view l.found)
