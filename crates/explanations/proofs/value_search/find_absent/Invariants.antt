use Rattle.std.proofs.Common.{◌≡◌, drop}
use Rattle.std.specs.Option.{option_map}
use Rattle.serde_json.specs.View.{view}
use Rattle.schema_types.specs.CedarViews.{cedar_fields_view}
use Rattle.entities.specs.EntityForms.{or_empty}
use Rattle.explanations.specs.inner.FoundPaths.{absent_path}
use Rattle.explanations.proofs.value_search.find_absent.Given as goal

abbrev pub invariant-loop-field : goal.invariant-loop-field
invariant-loop-field l =
    absent_path (cedar_fields_view l.fields) (or_empty (option_map (λ v. view v.now) l.value))
    ≡ absent_path (cedar_fields_view (drop l.field-index l.fields)) (or_empty (option_map (λ v. view v.now) l.value))
