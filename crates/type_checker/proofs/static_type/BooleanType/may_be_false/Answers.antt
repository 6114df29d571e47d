use Rattle.std.proofs.Common.{true, false, sym, subst}
use Rattle.std.specs.Prelude.{◌↔◌, IsTrue}
use Rattle.typing.specs.Rows.{MayBeFalse}
use Rattle.type_checker.specs.Views.{boolean_view}
use Rattle.type_checker.proofs.Booleans.{true_is_never, false_is_surely_not, either_perhaps_not}
use Rattle.type_checker.proofs.static_type.BooleanType.may_be_false.Goals as goal

pub returns-in-True : goal.returns-in-True
returns-in-True c = subst (λ b. IsTrue false ↔ MayBeFalse (boolean_view b)) (sym c.in-True.is) true_is_never

pub returns-in-False : goal.returns-in-False
returns-in-False c = subst (λ b. IsTrue true ↔ MayBeFalse (boolean_view b)) (sym c.in-False.is) false_is_surely_not

pub returns-in-Either : goal.returns-in-Either
returns-in-Either c = subst (λ b. IsTrue true ↔ MayBeFalse (boolean_view b)) (sym c.in-Either.is) either_perhaps_not
