use Rattle.std.proofs.Common.{Ok, Err, sym, ap, ◌∙◌, subst}
use Rattle.evaluator_steps.specs.Connectives.{AndGives, and_false, and_left_fails}
use Rattle.evaluator_steps.proofs.SecondDecides.{second_decides}
use Rattle.evaluator_steps.proofs.connectives.decided_by_first.Goals as goal

pub returns-in-Ok-true : goal.returns-in-Ok-true
returns-in-Ok-true g c = λ second.
    subst (λ first. AndGives first second _) (sym (c.in-Ok-true.is ∙ ap Ok c.in-Ok-true.field-0-test)) (second_decides second)

pub returns-in-Ok-false : goal.returns-in-Ok-false
returns-in-Ok-false g c = λ second.
    subst (λ first. AndGives first second _) (sym (c.in-Ok-false.is ∙ ap Ok c.in-Ok-false.field-0-test)) and_false

pub returns-in-Err : goal.returns-in-Err
returns-in-Err g c = λ second. subst (λ first. AndGives first second (Err c.in-Err.error)) (sym c.in-Err.is) and_left_fails
