use Rattle.std.proofs.Common.{map, drop, String, Global}
use Rattle.std.specs.BTreeSet.{BTreeSet}
use Rattle.schema_types.specs.NamesViews.{scope_of}
use Rattle.schema_reading.specs.inner.StatedViews.{common_view}
use Rattle.schema_reading.specs.Qualifying.{common_in}
use Rattle.schema_reading.specs.inner.Spreading.{AddsNonRecords}
use Rattle.schema_reading.proofs.records.add_non_records_of_namespace.Given as goal

-- what trying those that are left makes, trying all makes
abbrev pub invariant-loop-common : goal.invariant-loop-common
invariant-loop-common l = (last : BTreeSet (String Global))
    → AddsNonRecords (scope_of l.names) (map (λ x. common_in l.own x) (map common_view (drop l.common-index l.commons))) l.known last
    → AddsNonRecords (scope_of l.names) (map (λ x. common_in l.own x) (map common_view l.commons)) l.fn.known last
