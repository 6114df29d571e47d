use Rattle.std.proofs.Common.{◌≡◌, map, drop}
use Rattle.std.specs.List.{list_all}
use Rattle.schema_types.specs.NamesViews.{scope_of}
use Rattle.schema_reading.specs.inner.StatedViews.{entity_type_view}
use Rattle.schema_reading.specs.inner.Adding.{has_name}
use Rattle.schema_reading.specs.inner.Spreading.{is_record_at}
use Rattle.schema_reading.proofs.records.are_shapes.Given as goal

abbrev pub invariant-loop-item : goal.invariant-loop-item
invariant-loop-item l = list_all (λ e. is_record_at (λ q. has_name l.known q) (scope_of l.names) l.own e.shape) (map entity_type_view l.stated) ≡ list_all (λ e. is_record_at (λ q. has_name l.known q) (scope_of l.names) l.own e.shape) (map entity_type_view (drop l.item-index l.stated))
