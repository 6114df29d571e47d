use Rattle.std.proofs.Common.{◌≡◌, ◌++◌, map, drop}
use Rattle.schema_reading.specs.inner.StatedViews.{namespace_view}
use Rattle.schema_reading.specs.Qualifying.{commons_declared}
use Rattle.schema_reading.specs.inner.Uses.{listed_view}
use Rattle.schema_reading.proofs.order.list_all.Given as goal

abbrev pub invariant-loop-namespace : goal.invariant-loop-namespace
invariant-loop-namespace l =
    commons_declared (map namespace_view l.stated) ≡ map listed_view l.listed.items ++ commons_declared (map namespace_view (drop l.namespace-index l.stated))
