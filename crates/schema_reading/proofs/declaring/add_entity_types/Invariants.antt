use Rattle.std.proofs.Common.{map, drop, String, Global}
use Rattle.std.specs.BTreeSet.{BTreeSet}
use Rattle.schema_types.specs.Names.{full_name}
use Rattle.schema_reading.specs.inner.Adding.{has_name, IsUnionWith, any_name}
use Rattle.schema_reading.specs.inner.StatedViews.{entity_type_view}
use Rattle.schema_reading.proofs.declaring.add_entity_types.Given as goal

-- where those that are left are added too, all are
abbrev pub invariant-loop-entity_type : goal.invariant-loop-entity_type
invariant-loop-entity_type l = (last : BTreeSet (String Global))
    → IsUnionWith has_name (any_name (map (λ e. full_name l.own e.name) (map entity_type_view (drop l.entity_type-index l.stated)))) l.declared last
    → IsUnionWith has_name (any_name (map (λ e. full_name l.own e.name) (map entity_type_view l.stated))) l.fn.declared last
