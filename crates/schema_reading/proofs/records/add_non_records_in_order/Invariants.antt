use Rattle.std.proofs.Common.{map, drop, String, Global}
use Rattle.std.specs.BTreeSet.{BTreeSet}
use Rattle.schema_types.specs.NamesViews.{scope_of}
use Rattle.schema_reading.specs.inner.Spreading.{KeepsNames, AddsNonRecords, tried_in_order}
use Rattle.schema_reading.specs.inner.Uses.{listed_view}
use Rattle.schema_reading.proofs.records.add_non_records_in_order.Given as goal

-- what trying those that are left makes, trying all makes
abbrev pub invariant-loop-at : goal.invariant-loop-at
invariant-loop-at l = record {
  keeps : KeepsNames (scope_of l.names) (map listed_view l.commons) l.fn.known l.known;
  tries : (last : BTreeSet (String Global))
      → AddsNonRecords (scope_of l.names) (tried_in_order (map listed_view l.commons) (drop l.at-index l.order)) l.known last
      → AddsNonRecords (scope_of l.names) (tried_in_order (map listed_view l.commons) l.order) l.fn.known last;
}
