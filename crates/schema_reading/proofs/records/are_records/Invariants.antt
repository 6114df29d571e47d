use Rattle.std.proofs.Common.{◌≡◌, map, drop}
use Rattle.std.specs.List.{list_all}
use Rattle.schema_types.specs.NamesViews.{scope_of}
use Rattle.schema_reading.specs.inner.StatedViews.{namespace_view}
use Rattle.schema_reading.specs.inner.Adding.{has_name}
use Rattle.schema_reading.specs.inner.Spreading.{are_records_of}
use Rattle.schema_reading.proofs.records.are_records.Given as goal

abbrev pub invariant-loop-item : goal.invariant-loop-item
invariant-loop-item l = list_all (λ n. are_records_of (λ q. has_name l.known q) (scope_of l.names) n) (map namespace_view l.stated) ≡ list_all (λ n. are_records_of (λ q. has_name l.known q) (scope_of l.names) n) (map namespace_view (drop l.item-index l.stated))
