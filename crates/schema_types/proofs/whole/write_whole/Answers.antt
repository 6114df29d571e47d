use Rattle.std.proofs.Common.{sym}
use Rattle.schema_types.specs.QualifiedViews.{qualified_view}
use Rattle.schema_types.specs.CedarViews.{cedar_view}
use Rattle.schema_types.specs.TableViews.{size_view, type_table}
use Rattle.schema_types.specs.Outcome.{large_type}
use Rattle.schema_types.proofs.ClosedLemmas.{closed_sized}
use Rattle.schema_types.proofs.WholeLemmas.{has_one, is_large, is_whole, is_there}
use Rattle.schema_types.proofs.whole.write_whole.Goals as goal

pub returns-then-not-is_within : goal.returns-then-not-is_within
returns-then-not-is_within g c other =
    large_type (is_large g.commons (type_table c.args.table.now) c.requires.0.table (qualified_view c.args.ty.now) (size_view c.in-Some.size) c.in-Some.ensures (sym c.if-not-is_within.ensures))

pub returns-in-Some-2 : goal.returns-in-Some-2
returns-in-Some-2 g c =
    is_whole g.commons (type_table c.args.table.now) c.requires.0.table (qualified_view c.args.ty.now) (size_view c.in-Some.size) c.in-Some.ensures (sym c.if-not-is_within.ensures)
    (cedar_view c.in-Some-2.whole) (rw c.in-Some-2.is at c.in_ok-whole.ensures)

pub returns-in-None : goal.returns-in-None
returns-in-None g c other =
    is_there g.commons (type_table c.args.table.now) c.requires.0.table (qualified_view c.args.ty.now) (size_view c.in-Some.size) c.in-Some.ensures (sym c.if-not-is_within.ensures)
    (rw c.in-None.is at c.in_ok-whole.ensures)

pub returns-in_default : goal.returns-in_default
returns-in_default g c other =
    has_one (type_table c.args.table.now) (qualified_view c.args.ty.now) (closed_sized g.commons (type_table c.args.table.now) c.requires.0 (qualified_view c.args.ty.now) c.requires.1) c.in_default.ensures

pub write-requires : goal.write-requires
write-requires g c = record { size = size_view c.in-Some.size; is = sym c.in-Some.ensures; small = sym c.if-not-is_within.ensures }
