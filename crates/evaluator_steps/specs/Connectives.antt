-- Defines the result of `&&`, by one case for each rule of the language.
-- Source: Cedar reference guide 4.0, "Operators and functions"; cedar-spec, cedar-lean/Cedar/Spec/Evaluator.lean
-- (`evaluate`).
use Rattle.std.specs.Prelude.{Bool, true, false, Result, Ok, Err}

-- `AndGives first second r` holds if `r` is the result of `&&` on operands with the results `first` and `second`, each
-- a boolean or an error. An operand that is not a boolean has a type error as its result. A false or erroring first
-- operand alone determines `r`.
pub data AndGives {E : Type 0} : Result Bool E → Result Bool E → Result Bool E → Type 0 where
  and_false : {second : Result Bool E} → AndGives (Ok false) second (Ok false)
  and_true : {t : Bool} → AndGives (Ok true) (Ok t) (Ok t)
  and_left_fails : {e : E} {second : Result Bool E} → AndGives (Err e) second (Err e)
  and_right_fails : {e : E} → AndGives (Ok true) (Err e) (Err e)
