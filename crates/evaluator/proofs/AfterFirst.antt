-- What `&&` gives as a test, by what its operands give as tests.
use Rattle.std.specs.Prelude.{◌≡◌, Bool, true, false, Option, Result, Ok, Err, if◌then◌else◌, refl}
use Rattle.std.proofs.Common.{sym, ap, ◌∙◌, subst}
use Rattle.evaluator_steps.specs.Connectives.{AndGives, and_false, and_true, and_left_fails, and_right_fails}
use Rattle.evaluator.specs.declared.fault.EvalFault.{EvalFault}
use Rattle.evaluator.specs.Outcomes.{EvaluationResult}
use Rattle.evaluator.specs.inner.Computing.{Answers, and_then, as_test, truth, both}

abbrev Tested : Type 0
Tested = Result Bool EvalFault

and_of : Tested → Tested → Tested
and_of a b = and_then a (λ t. if t then b else Ok false)

and_is : (a b r : Tested) → AndGives a b r → and_of a b ≡ r
unfolding and_of
and_is _ _ _ and_false = refl
and_is _ _ _ and_true = refl
and_is _ _ _ and_left_fails = refl
and_is _ _ _ and_right_fails = refl

tested : (a b : Tested) → as_test (and_then a (λ t. if t then and_then b truth else truth false)) ≡ and_of a b
unfolding and_of
tested (Ok true) (Ok t) = refl
tested (Ok true) (Err e) = refl
tested (Ok false) b = refl
tested (Err e) b = refl

answers : (r m : Tested) → m ≡ r → Answers r m
answers (Ok t) m e = e
answers (Err f) m e = λ n. e

-- where the first operand alone decides
pub decided : (m n : EvaluationResult) (first r : Tested) → Answers first (as_test m) → AndGives first (as_test n) r → Answers r (as_test (both m n))
unfolding and_of
decided m n (Ok t) r h gives = answers r _ (tested (as_test m) (as_test n) ∙ ap (λ a. and_of a (as_test n)) h ∙ and_is (Ok t) (as_test n) r gives)
decided m n (Err e) _ h and_left_fails = λ proper. tested (as_test m) (as_test n) ∙ ap (λ a. and_of a (as_test n)) (h proper)

-- where the outcome is the second's
pub undecided : (m n : EvaluationResult) (first second : Tested) → Answers first (as_test m) → ((b : Tested) → AndGives first b b) → Answers second (as_test n) → Answers second (as_test (both m n))
unfolding and_of
undecided m n (Ok t) second h gives there =
    let is : as_test (both m n) ≡ as_test n = tested (as_test m) (as_test n) ∙ ap (λ a. and_of a (as_test n)) h ∙ and_is (Ok t) (as_test n) (as_test n) (gives (as_test n)) in
    subst (Answers second) (sym is) there
undecided m n (Err e) second h gives there = let never : Err e ≡ Ok true = and_is (Err e) (Ok true) (Ok true) (gives (Ok true)) in absurd (cc)
