use Rattle.std.proofs.Common.{◌≡◌, ◌∙◌, ◌++◌, ◌∷◌, [], ℕ, List, string_bytes, sym, ap, append_assoc}
use lib.Utf8.{encode}
use Rattle.explanations.specs.declared.steps.Step as code
use Rattle.explanations.specs.Steps.{Step, Index, step_view}
use Rattle.explanations.specs.Pointers.{escaped, token_of}
use Rattle.explanations.proofs.Going.{on_ok}
use Rattle.explanations.proofs.pointers.push_step.Goals as goal

-- a slash, and the token of the step behind it
after_slash : (out pushed new : List ℕ) (s : Step) (token : List ℕ) → pushed ≡ out ++ (47 ∷ []) → token ≡ token_of s → new ≡ pushed ++ token → new ≡ out ++ (47 ∷ token_of s)
after_slash out pushed new s token e is h = h ∙ ap (λ (l : List ℕ). l ++ token) e ∙ append_assoc out (47 ∷ []) token ∙ ap (λ (l : List ℕ). out ++ (47 ∷ l)) is

abbrev token_of_code : code.Step → List ℕ
token_of_code s = token_of (step_view s)

pub returns-in-Key : goal.returns-in-Key
unfolding encode
returns-in-Key c =
    let out = string_bytes c.args.out.now in
    let pushed = string_bytes c.push.new.self in
    let new = string_bytes c.push_key.new.out in
    let token = escaped c.in-Key.key.now in
    on_ok c.push_key.result (new ≡ pushed ++ token) (new ≡ out ++ (47 ∷ token_of_code c.args.step))
    (after_slash out pushed new (step_view c.args.step) token c.in-Ok.ensures.bytes (ap token_of_code (sym c.in-Key.is))) c.push_key.ensures

pub returns-in-Index : goal.returns-in-Index
unfolding encode
returns-in-Index c =
    let out = string_bytes c.args.out.now in
    let pushed = string_bytes c.push.new.self in
    let new = string_bytes c.write.new.self in
    let token = token_of (Index c.in-Index.index) in
    on_ok c.write.result (new ≡ pushed ++ token) (new ≡ out ++ (47 ∷ token_of_code c.args.step))
    (after_slash out pushed new (step_view c.args.step) token c.in-Ok.ensures.bytes (ap token_of_code (sym c.in-Index.is))) c.write.ensures.bytes

pub returns-in-Err : goal.returns-in-Err
returns-in-Err c = tt
