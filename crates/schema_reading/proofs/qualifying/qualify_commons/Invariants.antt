use Rattle.std.proofs.Common.{◌≡◌, map, take, Ok}
use Rattle.json_words.specs.Each.{each}
use Rattle.schema_types.specs.NamesViews.{scope_of}
use Rattle.schema_reading.specs.inner.StatedViews.{common_view}
use Rattle.schema_types.specs.QualifiedViews.{resolved_common_view}
use Rattle.schema_reading.specs.Qualifying.{qualified_common}
use Rattle.schema_reading.proofs.qualifying.qualify_commons.Given as goal

abbrev pub invariant-loop-item : goal.invariant-loop-item
invariant-loop-item l = each (λ i x. qualified_common (scope_of l.names) l.own x) 0 (map common_view (take l.item-index l.stated)) ≡ Ok (map resolved_common_view l.found)
