use Rattle.std.proofs.Common.{◌≡◌, drop}
use Rattle.schema_types.specs.inner.Table.{no_size, sizes_in}
use Rattle.schema_types.specs.TableViews.{size_view, type_table}
use Rattle.schema_types.specs.QualifiedViews.{qualified_fields_view}
use Rattle.schema_types.proofs.size.+size_of.Given as goal

abbrev pub invariant-size_of_fields-loop-field : goal.invariant-size_of_fields-loop-field
invariant-size_of_fields-loop-field l =
    sizes_in (type_table l.table) no_size (qualified_fields_view l.fields.items) ≡ sizes_in (type_table l.table) (size_view l.total) (qualified_fields_view (drop l.field-index l.fields.items))
