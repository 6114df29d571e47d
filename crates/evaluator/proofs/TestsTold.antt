-- What a form gives as a test, by what its operands tell.
use Rattle.std.specs.Prelude.{◌≡◌, ◌≢◌, Bool, None, Result, Ok, Err}
use Rattle.std.proofs.Common.{ap, subst, sym, ◌∙◌}
use Rattle.values.specs.declared.request.Request.{Request}
use Rattle.values.specs.Values.{PlainValue, boolean}
use Rattle.grammar_core.specs.declared.expr.Expr.{Expr}
use Rattle.grammar_core.specs.declared.operator.Binary.{Binary}
use Rattle.evaluator.specs.declared.fault.EvalFault.{EvalFault}
use Rattle.evaluator.specs.declared.fault.EvalFault.TheVariants.{TypeError, NoMemory}
use Rattle.evaluator.specs.declared.numbers.Numbers.{Numbers}
use Rattle.evaluator.specs.Outcomes.{EvaluationResult, boolean_in}
use Rattle.evaluator.proofs.ByKind.{boolean_cases}
use Rattle.evaluator.specs.Operators.{Entities}
use Rattle.evaluator.specs.Evaluation.{EvaluatesTo, TestFails, test_errs, no_boolean, AnswersTest}
use Rattle.evaluator.specs.inner.Computing.{DecidedEntities, Answers, and_then, as_test, demanded, truth, apply_binary, AnswersNumbers}

-- where two numbers are not told, nothing is compared
pub compare_fails : (E : DecidedEntities) (op : Binary) (found : Result Numbers EvalFault) (e : EvalFault) → found ≡ Err e → (a b : EvaluationResult) → AnswersNumbers found a b → e ≢ NoMemory → as_test (and_then a (λ v. and_then b (apply_binary E op v))) ≡ Err e
compare_fails E op found e is a b h n = ap as_test (subst (λ (r : Result Numbers EvalFault). AnswersNumbers r a b) is h n (apply_binary E op))

-- a test is told by what the expression gives
module _ (W : Entities) (q : Request) (x : Expr) where
  abbrev Told : PlainValue → Type 0
  Told v = EvaluatesTo W q x (Ok v) → (r : Result Bool EvalFault) → Answers r (demanded (boolean_in v)) → AnswersTest W q x r

  of_boolean : (b : Bool) → Told (boolean b)
  of_boolean b given (Ok t) h = subst (EvaluatesTo W q x) (ap (λ (r : Result Bool EvalFault). and_then r truth) h) given
  of_boolean b given (Err e) h = λ n. absurd (let is = h n in cc)

  abbrev Fails : Result Bool EvalFault → Type 0
  Fails (Ok t) = Unit {0}
  Fails (Err e) = TestFails W q x e

  of_other : (v : PlainValue) → boolean_in v ≡ None → Told v
  of_other v none given (Ok t) h = absurd (let is : Err TypeError ≡ Ok t = sym (ap demanded none) ∙ h in cc)
  of_other v none given (Err e) h = λ n. subst Fails (sym (ap demanded none) ∙ h n) (no_boolean given none)

  pub test_answers : (m : EvaluationResult) → EvaluatesTo W q x m → (r : Result Bool EvalFault) → Answers r (as_test m) → AnswersTest W q x r
  test_answers (Ok v) given r h = boolean_cases Told of_boolean of_other v given r h
  test_answers (Err e) given (Ok t) h = absurd (cc)
  test_answers (Err e) given (Err f) h = λ n. test_errs (subst (EvaluatesTo W q x) (ap (λ (r : Result Bool EvalFault). and_then r truth) (h n)) given)
