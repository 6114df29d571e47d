use Rattle.std.proofs.Common.{◌∙◌, ◌+◌, List, drop, refl, sym, ap}
use Rattle.std.specs.Prelude.{option_and_then}
use Rattle.std.proofs.lemmas.List.{drop_all, drop_more}
use Rattle.schema_types.specs.CedarViews.{cedar_view}
use Rattle.explanations.specs.declared.steps.Step.{Step}
use Rattle.explanations.specs.Steps.{steps_view}
use Rattle.explanations.specs.TypePaths.{type_at}
use Rattle.explanations.proofs.type_paths.type_at.Goals as goal

pub loop-step-preserved : goal.loop-step-preserved
loop-step-preserved c =
    let rest = steps_view (drop (c.loop-step.step-index + 1) c.args.path.now) in
    c.loop-step.invariant
    ∙ ap (λ (l : List Step). type_at (cedar_view c.loop-step.ty.now) (steps_view l)) (drop_more c.args.path.now c.loop-step.step-index _ c.loop-step-test.true)
    ∙ ap (option_and_then (λ part. type_at part rest)) (sym c.in-Some.ensures)

pub returns-in-None : goal.returns-in-None
returns-in-None c =
    let rest = steps_view (drop (c.loop-step.step-index + 1) c.args.path.now) in
    sym (c.loop-step.invariant
    ∙ ap (λ (l : List Step). type_at (cedar_view c.loop-step.ty.now) (steps_view l)) (drop_more c.args.path.now c.loop-step.step-index _ c.loop-step-test.true)
    ∙ ap (option_and_then (λ part. type_at part rest)) (sym c.in-None.ensures))

pub loop-step-init : goal.loop-step-init
loop-step-init c = refl

pub returns : goal.returns
returns c = sym (c.loop-step.invariant ∙ ap (λ (l : List Step). type_at (cedar_view c.loop-step.ty.now) (steps_view l)) (drop_all c.loop-step.step-index c.args.path.now c.loop-step-test.false))
