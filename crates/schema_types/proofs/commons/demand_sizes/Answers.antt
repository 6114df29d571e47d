use Rattle.std.proofs.Common.{map, sym}
use Rattle.schema_types.specs.TableViews.{type_table}
use Rattle.schema_types.specs.QualifiedViews.{resolved_common_view}
use Rattle.schema_types.specs.Outcome.{large_common}
use Rattle.schema_types.proofs.Sizes.{are_whole, some_large}
use Rattle.schema_types.proofs.commons.demand_sizes.Goals as goal

pub returns-then-not-are_all_small : goal.returns-then-not-are_all_small
returns-then-not-are_all_small c = large_common (some_large (map resolved_common_view c.args.commons.now) (type_table c.args.table.now) c.requires (sym c.if-not-are_all_small.ensures))

pub returns : goal.returns
returns c = are_whole (map resolved_common_view c.args.commons.now) (type_table c.args.table.now) c.requires (sym c.if-not-are_all_small.ensures)
