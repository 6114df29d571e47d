use Rattle.std.proofs.Common.{◌≡◌, map, drop}
use Rattle.schema_types.specs.inner.Table.{all_small}
use Rattle.schema_types.specs.TableViews.{type_table}
use Rattle.schema_types.specs.QualifiedViews.{resolved_common_view}
use Rattle.schema_types.proofs.commons.are_all_small.Given as goal

abbrev pub invariant-loop-common : goal.invariant-loop-common
invariant-loop-common l = all_small (type_table l.table) (map resolved_common_view l.commons) ≡ all_small (type_table l.table) (map resolved_common_view (drop l.common-index l.commons))
