use Rattle.std.proofs.Common.{drop}
use Rattle.schema_types.specs.CedarViews.{cedar_fields_view}
use Rattle.entities.specs.inner.FieldSuffixes.{DeclareAlikeFrom}
use Rattle.entities.proofs.value_reading.from_name.Given as goal

abbrev pub invariant-loop-place : goal.invariant-loop-place
invariant-loop-place l = DeclareAlikeFrom l.name (cedar_fields_view l.fields) (cedar_fields_view (drop l.place l.fields))
