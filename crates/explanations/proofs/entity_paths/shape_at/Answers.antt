use Rattle.std.proofs.Common.{◌∙◌, Option, sym, ap}
use Rattle.std.specs.Prelude.{option_and_then}
use Rattle.values.specs.declared.entity_uid.EntityUid.{EntityUid}
use Rattle.schema_types.specs.Cedar.{Cedar}
use Rattle.schema_decisions.specs.schema.Schemas.{StatedSchema}
use Rattle.schema_decisions.specs.schema.Views.{schema_view}
use Rattle.explanations.proofs.entity_paths.shape_at.Goals as goal

abbrev shape_of_uid : StatedSchema → Option EntityUid → Option Cedar
shape_of_uid s o = option_and_then (λ uid. s.shape uid.type_name) o

pub returns-in-Some : goal.returns-in-Some
returns-in-Some c = c.in-Some.ensures ∙ ap (shape_of_uid (schema_view c.args.schema.now)) (sym c.in-Ok-Some.field-0-is ∙ c.in-Ok-Some.ensures)

pub returns-in-None : goal.returns-in-None
returns-in-None c = c.in-None.ensures ∙ ap (shape_of_uid (schema_view c.args.schema.now)) (sym c.in-Ok-Some.field-0-is ∙ c.in-Ok-Some.ensures)

pub returns-in-Ok-None : goal.returns-in-Ok-None
returns-in-Ok-None c = ap (shape_of_uid (schema_view c.args.schema.now)) (sym c.in-Ok-None.field-0-is ∙ c.in-Ok-None.ensures)

pub returns-in-Err : goal.returns-in-Err
returns-in-Err c = tt
