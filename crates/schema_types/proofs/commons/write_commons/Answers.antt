use Rattle.std.proofs.Common.{map, sym}
use Rattle.schema_types.specs.TypeTables.{IsTable}
use Rattle.schema_types.specs.TableViews.{type_table}
use Rattle.schema_types.specs.QualifiedViews.{resolved_common_view}
use Rattle.schema_types.specs.Outcome.{cycle}
use Rattle.schema_types.proofs.Rounds.{are_written, has_no_expansion}
use Rattle.schema_types.proofs.commons.write_commons.Goals as goal

pub returns-then-not-are_all_known : goal.returns-then-not-are_all_known
returns-then-not-are_all_known c other =
    cycle (has_no_expansion (map resolved_common_view c.args.commons.now) (type_table c.has_grown.new.table) (c.in_ok-has_grown.ensures.settled c.if-branch.false) (sym c.if-not-are_all_known.ensures))

pub returns : goal.returns
returns c =
    let commons = map resolved_common_view c.args.commons.now in
    let so : IsTable commons (type_table c.has_grown.new.table) = c.in_ok-has_grown.ensures.rounds.sound commons (λ q r here. here) c.loop-order.invariant in
    are_written commons (type_table c.has_grown.new.table) so (sym c.if-not-are_all_known.ensures)
