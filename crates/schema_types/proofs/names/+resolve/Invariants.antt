use Rattle.std.proofs.Common.{◌≡◌, drop}
use Rattle.schema_types.specs.Views.{fields_view}
use Rattle.schema_types.specs.Names.{fields_of}
use Rattle.schema_types.specs.NamesViews.{scope_of}
use Rattle.schema_types.proofs.QualifiedWalk.{with_front}
use Rattle.schema_types.proofs.names.+resolve.Given as goal

abbrev pub invariant-resolve_fields-loop-field : goal.invariant-resolve_fields-loop-field
invariant-resolve_fields-loop-field l =
    fields_of (scope_of l.names) l.own (fields_view l.fields.items) ≡ with_front l.found.items (fields_of (scope_of l.names) l.own (fields_view (drop l.field-index l.field-items)))
