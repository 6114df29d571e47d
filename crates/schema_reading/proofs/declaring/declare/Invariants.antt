use Rattle.std.proofs.Common.{map, drop}
use Rattle.schema_types.specs.declared.names.Names.{Names}
use Rattle.schema_reading.specs.inner.StatedViews.{namespace_view}
use Rattle.schema_reading.specs.inner.Adding.{AddsAll, Declares}
use Rattle.schema_reading.proofs.declaring.declare.Given as goal

-- where those that are left are added too, all are, and nothing else
abbrev pub invariant-loop-namespace : goal.invariant-loop-namespace
invariant-loop-namespace l = (last : Names) → AddsAll (map namespace_view (drop l.namespace-index l.stated)) l.names last → Declares (map namespace_view l.stated) last
