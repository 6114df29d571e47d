use Rattle.std.proofs.Common.{map, drop, String, Global}
use Rattle.std.specs.BTreeSet.{BTreeSet}
use Rattle.schema_types.specs.NamesViews.{scope_of}
use Rattle.schema_reading.specs.inner.StatedViews.{namespace_view}
use Rattle.schema_reading.specs.Qualifying.{commons_declared}
use Rattle.schema_reading.specs.inner.Spreading.{AddsNonRecords}
use Rattle.schema_reading.proofs.records.add_non_records.Given as goal

-- what trying those that are left makes, trying all makes
abbrev pub invariant-loop-namespace : goal.invariant-loop-namespace
invariant-loop-namespace l = (last : BTreeSet (String Global))
    → AddsNonRecords (scope_of l.names) (commons_declared (map namespace_view (drop l.namespace-index l.stated))) l.known last
    → AddsNonRecords (scope_of l.names) (commons_declared (map namespace_view l.stated)) l.fn.known last
