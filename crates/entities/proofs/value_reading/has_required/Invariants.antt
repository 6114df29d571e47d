use Rattle.std.proofs.Common.{◌≡◌, drop}
use Rattle.serde_json.specs.View.{view}
use Rattle.schema_types.specs.CedarViews.{cedar_fields_view}
use Rattle.entities.specs.Typing.{all_there}
use Rattle.entities.proofs.value_reading.has_required.Given as goal

abbrev pub invariant-loop-field : goal.invariant-loop-field
invariant-loop-field l = all_there (cedar_fields_view l.fields) (view l.value) ≡ all_there (cedar_fields_view (drop l.field-index l.fields)) (view l.value)
