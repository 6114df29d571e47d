use Rattle.std.proofs.Common.{◌≡◌, drop}
use Rattle.schema_types.specs.CedarViews.{cedar_fields_view}
use Rattle.entities.specs.Parts.{declared_at}
use Rattle.entities.proofs.type_parts.declared_type.Given as goal

abbrev pub invariant-loop-field : goal.invariant-loop-field
invariant-loop-field l = declared_at l.name (cedar_fields_view l.fields) ≡ declared_at l.name (cedar_fields_view (drop l.field-index l.fields))
