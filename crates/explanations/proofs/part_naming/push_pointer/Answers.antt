use Rattle.std.proofs.Common.{◌≡◌, ◌∙◌, ◌++◌, ◌==◌, ℕ, List, [], ◌∷◌, Bool, true, false, length, string_bytes, codes, refl, sym, ap, append_assoc, arith}
use Rattle.std.proofs.lemmas.List.{append-nil}
use Rattle.std.proofs.lemmas.Bool.Decides.{nat_tests}
use Rattle.explanations.specs.declared.steps.Step.{Step}
use Rattle.explanations.specs.Steps.{steps_view}
use Rattle.explanations.specs.Pointers.{pointer_of}
use Rattle.explanations.specs.PartWords.{pointer_words}
use Rattle.explanations.proofs.Going.{on_ok}
use Rattle.explanations.proofs.part_naming.push_pointer.Goals as goal

none : (n : ℕ) (empty : Bool) → empty ≡ (n == 0) → empty ≡ true → n ≡ 0
none n empty e is = grind (arith, nat_tests, e, is)

of_the_whole : (path : List Step) (empty : Bool) → empty ≡ (length path == 0) → empty ≡ true → [] ≡ pointer_words (pointer_of (steps_view path))
of_the_whole [] empty e is = refl
of_the_whole (step ∷ path) empty e is =
    let zero : length (step ∷ path) ≡ 0 = none (length (step ∷ path)) empty e is in
    absurd (omega (arith, zero))

of_a_part : (path : List Step) (empty : Bool) → empty ≡ (length path == 0) → empty ≡ false → codes "at " ++ pointer_of (steps_view path) ≡ pointer_words (pointer_of (steps_view path))
of_a_part [] empty e is = absurd cc
of_a_part (step ∷ path) empty e is = refl

pub returns-then-is_empty : goal.returns-then-is_empty
returns-then-is_empty c =
    let out = string_bytes c.args.out.now in
    sym (append-nil out) ∙ ap (λ (l : List ℕ). out ++ l) (of_the_whole c.args.path.now c.is_empty.result c.is_empty.ensures c.if-is_empty.true)

pub returns-in-Ok : goal.returns-in-Ok
returns-in-Ok c =
    let out = string_bytes c.args.out.now in
    let path = c.args.path.now in
    on_ok c.push_steps.result (string_bytes c.push_steps.new.out ≡ string_bytes c.push_str.new.self ++ pointer_of (steps_view path)) (string_bytes c.push_steps.new.out ≡ out ++ pointer_words (pointer_of (steps_view path)))
    (λ e. e ∙ ap (λ (l : List ℕ). l ++ pointer_of (steps_view path)) c.in-Ok.ensures.bytes ∙ append_assoc out (codes "at ") (pointer_of (steps_view path))
    ∙ ap (λ (l : List ℕ). out ++ l) (of_a_part path c.is_empty.result c.is_empty.ensures c.if-is_empty.false))
    c.push_steps.ensures
