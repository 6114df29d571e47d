use Rattle.std.proofs.Common.{sym, subst}
use Rattle.type_checker.specs.inner.RepeatedOperand.{MayBeTrueResult}
use Rattle.type_checker.proofs.repeated_operand.result_may_be_true.Goals as goal

pub returns-in-Ok : goal.returns-in-Ok
returns-in-Ok c = λ h. subst MayBeTrueResult (sym c.in-Ok.is) (c.may_be_true.ensures.0 h)
