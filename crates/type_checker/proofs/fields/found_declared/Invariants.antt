use Rattle.std.proofs.Common.{◌≡◌, drop}
use Rattle.typing.specs.Types.{field_declared_at}
use Rattle.schema_types.specs.CedarViews.{cedar_fields_view}
use Rattle.type_checker.specs.FromSchemas.{static_fields}
use Rattle.type_checker.proofs.fields.found_declared.Given as goal

abbrev pub invariant-loop-field : goal.invariant-loop-field
invariant-loop-field l =
    field_declared_at l.key (static_fields (cedar_fields_view l.fields))
    ≡ field_declared_at l.key (static_fields (cedar_fields_view (drop l.field-index l.fields)))
