use Rattle.std.proofs.Common.{◌-◌, ◌^◌, map}
use Rattle.std.specs.BTreeSet.{btree_set_len}
use Rattle.schema_reading.specs.inner.StatedViews.{namespace_view}
use Rattle.schema_reading.specs.inner.Spreading.{IsSound}
use Rattle.schema_reading.proofs.records.no_records.Given as goal

abbrev pub invariant-loop-known : goal.invariant-loop-known
invariant-loop-known l = IsSound (map namespace_view l.stated) l.known

-- how many names may still come
abbrev pub decreases-loop-known : goal.decreases-loop-known
decreases-loop-known l = 2 ^ 63 - btree_set_len l.known
