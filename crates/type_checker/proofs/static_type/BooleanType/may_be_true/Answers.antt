use Rattle.std.proofs.Common.{true, false, sym, subst}
use Rattle.std.specs.Prelude.{◌↔◌, IsTrue}
use Rattle.typing.specs.Rows.{MayBeTrue}
use Rattle.type_checker.specs.Views.{boolean_view}
use Rattle.type_checker.proofs.Booleans.{false_is_never, true_is_surely, either_perhaps}
use Rattle.type_checker.proofs.static_type.BooleanType.may_be_true.Goals as goal

pub returns-in-False : goal.returns-in-False
returns-in-False c = subst (λ b. IsTrue false ↔ MayBeTrue (boolean_view b)) (sym c.in-False.is) false_is_never

pub returns-in-True : goal.returns-in-True
returns-in-True c = subst (λ b. IsTrue true ↔ MayBeTrue (boolean_view b)) (sym c.in-True.is) true_is_surely

pub returns-in-Either : goal.returns-in-Either
returns-in-Either c = subst (λ b. IsTrue true ↔ MayBeTrue (boolean_view b)) (sym c.in-Either.is) either_perhaps
