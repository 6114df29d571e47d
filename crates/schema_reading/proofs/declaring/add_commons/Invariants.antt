use Rattle.std.proofs.Common.{map, drop, String, Global}
use Rattle.std.specs.BTreeSet.{BTreeSet}
use Rattle.schema_reading.specs.Qualifying.{common_in}
use Rattle.schema_reading.specs.inner.Adding.{has_name, IsUnionWith, any_common}
use Rattle.schema_reading.specs.inner.StatedViews.{common_view}
use Rattle.schema_reading.proofs.declaring.add_commons.Given as goal

-- where those that are left are added too, all are
abbrev pub invariant-loop-common : goal.invariant-loop-common
invariant-loop-common l = (last : BTreeSet (String Global))
    → IsUnionWith has_name (any_common (map (λ x. common_in l.own x) (map common_view (drop l.common-index l.stated)))) l.declared last
    → IsUnionWith has_name (any_common (map (λ x. common_in l.own x) (map common_view l.stated))) l.fn.declared last
