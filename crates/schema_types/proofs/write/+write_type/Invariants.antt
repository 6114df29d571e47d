use Rattle.std.proofs.Common.{◌≡◌, drop}
use Rattle.schema_types.specs.QualifiedViews.{qualified_fields_view}
use Rattle.schema_types.specs.inner.Table.{fields_in}
use Rattle.schema_types.specs.TableViews.{type_table}
use Rattle.schema_types.proofs.CedarWalk.{after}
use Rattle.schema_types.proofs.write.+write_type.Given as goal

abbrev pub invariant-write_fields-loop-field : goal.invariant-write_fields-loop-field
invariant-write_fields-loop-field l = fields_in (type_table l.table) (qualified_fields_view l.fields.items) ≡ after l.written.items (fields_in (type_table l.table) (qualified_fields_view (drop l.field-index l.field-items)))
