use Rattle.std.proofs.Common.{◌≡◌, ◌∙◌, ◌++◌, ◌∷◌, ◌+◌, ◌<◌, [], ℕ, List, length, get_or, take, string_bytes, sym, ap, append_assoc}
use Rattle.std.proofs.lemmas.List.{append-nil, map-append, take_all, take_more}
use Rattle.std.proofs.lemmas.Grind.{flat_map-append}
use Rattle.explanations.specs.declared.steps.Step.{Step}
use Rattle.explanations.specs.Steps.{step_view, steps_view}
use Rattle.explanations.specs.Pointers.{token_of, pointer_of}
use Rattle.explanations.proofs.pointers.push_steps.Goals as goal

abbrev pointer_to : List Step → List ℕ
pointer_to path = pointer_of (steps_view path)

-- one step more
longer : (path : List Step) (i : ℕ) (d : Step) → i < length path
    → pointer_to (take i path) ++ (47 ∷ token_of (step_view (get_or path i d))) ≡ pointer_to (take (i + 1) path)
longer path i d below =
    let s = get_or path i d in
    sym (flat_map-append (λ step. 47 ∷ token_of step) (steps_view (take i path)) (step_view s ∷ [])
    ∙ ap (λ (l : List ℕ). pointer_to (take i path) ++ l) (append-nil (47 ∷ token_of (step_view s))))
    ∙ ap pointer_of (sym (map-append step_view (take i path) (s ∷ [])))
    ∙ ap pointer_to (sym (take_more path i d below))

one_more : (first : List ℕ) (path : List Step) (i : ℕ) (d : Step) (old new : List ℕ) → i < length path → old ≡ first ++ pointer_to (take i path)
    → new ≡ old ++ (47 ∷ token_of (step_view (get_or path i d))) → new ≡ first ++ pointer_to (take (i + 1) path)
one_more first path i d old new below was comes =
    let s = get_or path i d in
    comes ∙ ap (λ (l : List ℕ). l ++ (47 ∷ token_of (step_view s))) was
    ∙ append_assoc first (pointer_to (take i path)) (47 ∷ token_of (step_view s))
    ∙ ap (λ (l : List ℕ). first ++ l) (longer path i d below)

pub loop-step-preserved : goal.loop-step-preserved
loop-step-preserved c =
    one_more (string_bytes c.args.out.now) c.args.path.now c.loop-step.step-index _ (string_bytes c.loop-step.out) (string_bytes c.push_step.new.out) c.loop-step-test.true c.loop-step.invariant c.in-Ok.ensures

pub returns : goal.returns
returns c =
    c.loop-step.invariant
    ∙ ap (λ (l : List Step). string_bytes c.args.out.now ++ pointer_to l) (take_all c.loop-step.step-index c.args.path.now c.loop-step-test.false)
