use Rattle.std.proofs.Common.{◌≡◌, ◌++◌, map, drop}
use Rattle.schema_reading.specs.inner.Uses.{listed_view}
use Rattle.schema_reading.proofs.UsesLemmas.{commons_of}
use Rattle.schema_reading.proofs.order.add_all.Given as goal

abbrev pub invariant-loop-common : goal.invariant-loop-common
invariant-loop-common l =
    map listed_view l.fn.listed.items ++ commons_of l.own l.commons ≡ map listed_view l.listed.items ++ commons_of l.own (drop l.common-index l.commons)
