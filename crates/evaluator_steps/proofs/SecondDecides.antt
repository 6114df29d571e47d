-- Where the first operand of `&&` is true, the whole gives what the second does.
use Rattle.std.specs.Prelude.{Bool, true, Result, Ok, Err}
use Rattle.evaluator_steps.specs.Connectives.{AndGives, and_true, and_right_fails}

pub second_decides : {E : Type 0} (second : Result Bool E) → AndGives (Ok true) second second
second_decides (Ok t) = and_true
second_decides (Err e) = and_right_fails
