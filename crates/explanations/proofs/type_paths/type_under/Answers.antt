use Rattle.std.proofs.Common.{◌∙◌, sym, ap}
use Rattle.std.specs.Prelude.{option_and_then}
use Rattle.schema_types.specs.CedarViews.{cedar_view}
use Rattle.entities.specs.Parts.{declared_at}
use Rattle.explanations.specs.declared.steps.Step.{Step}
use Rattle.explanations.specs.Steps.{step_view}
use Rattle.explanations.specs.TypePaths.{type_under}
use Rattle.explanations.proofs.type_paths.type_under.Goals as goal

pub returns-in-Some : goal.returns-in-Some
returns-in-Some c =
    c.declared_type.ensures ∙ ap (option_and_then (declared_at c.in-Key.key.now)) c.in-Some.ensures
    ∙ ap (λ (s : Step). type_under (cedar_view c.args.ty.now) (step_view s)) (sym c.in-Key.is)

pub returns-in-None : goal.returns-in-None
returns-in-None c =
    ap (option_and_then (declared_at c.in-Key.key.now)) c.in-None.ensures
    ∙ ap (λ (s : Step). type_under (cedar_view c.args.ty.now) (step_view s)) (sym c.in-Key.is)

pub returns-in-Index : goal.returns-in-Index
returns-in-Index c = c.element_type.ensures ∙ ap (λ (s : Step). type_under (cedar_view c.args.ty.now) (step_view s)) (sym c.in-Index.is)
