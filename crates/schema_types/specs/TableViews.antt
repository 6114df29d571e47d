-- Defines the abstract view of the code's table of common types.
use Rattle.std.specs.Prelude.{option_map, String}
use Rattle.std.specs.BTreeMap.{BTreeMap, get_by_text}
use Rattle.std.specs.declared.alloc.Global.{Global}
use Rattle.schema_types.specs.declared.table.Size.{Size}
use Rattle.schema_types.specs.declared.table.CommonEntry.{CommonEntry}
use Rattle.schema_types.specs.CedarViews.{cedar_view}
use Rattle.schema_types.specs.TypeTables.{Extent, TableEntry, TypeTable}

-- `size_view s`, `known_view k` and `type_table table` are the abstract views of the size `s`, of the entry `k` and of
-- the table `table`.
abbrev pub size_view : Size → Extent
size_view s = record { parts = s.parts; deep = s.deep }

abbrev pub known_view : CommonEntry → TableEntry
known_view k = record { size = size_view k.size; whole = option_map cedar_view k.whole }

abbrev pub type_table : BTreeMap (String Global) CommonEntry → TypeTable
type_table table q = option_map known_view (get_by_text table q)
