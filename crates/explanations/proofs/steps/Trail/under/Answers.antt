use Rattle.std.proofs.Common.{◌∙◌, ◌∷◌, [], List, Some, ap}
use Rattle.std.specs.Prelude.{reverse}
use Rattle.std.proofs.lemmas.List.{reverse-append}
use Rattle.explanations.specs.declared.steps.Step as code
use Rattle.explanations.specs.Steps.{Step, step_view, steps_view}
use Rattle.explanations.proofs.steps.Trail.under.Goals as goal

pub returns : goal.returns
returns c =
    ap (λ (l : List code.Step). Some (steps_view (reverse l))) c.in_ok-push.ensures.items
    ∙ ap (λ (l : List code.Step). Some (steps_view l)) (reverse-append c.self.inside.steps.items (c.args.step ∷ []))
    ∙ ap (λ (l : List Step). Some (step_view c.args.step ∷ l)) c.self.view_is
