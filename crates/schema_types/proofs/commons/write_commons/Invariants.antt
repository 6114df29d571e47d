use Rattle.std.proofs.Common.{◌-◌, ◌^◌, map}
use Rattle.std.specs.BTreeMap.{btree_map_len}
use Rattle.schema_types.specs.TypeTables.{IsTable}
use Rattle.schema_types.specs.TableViews.{type_table}
use Rattle.schema_types.specs.QualifiedViews.{resolved_common_view}
use Rattle.schema_types.proofs.commons.write_commons.Given as goal

abbrev pub invariant-loop-order : goal.invariant-loop-order
invariant-loop-order l = IsTable (map resolved_common_view l.commons) (type_table l.table)

-- how many entries may still come
abbrev pub decreases-loop-order : goal.decreases-loop-order
decreases-loop-order l = 2 ^ 63 - btree_map_len l.table
