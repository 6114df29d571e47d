use Rattle.std.proofs.Common.{sym, subst}
use Rattle.grammar_core.specs.declared.expr.Expr.TheVariants as form
use Rattle.typing.specs.Typing as typing
use Rattle.typing.specs.Faults as faults
use Rattle.type_checker.specs.Views.{Answers}
use Rattle.type_checker.proofs.Carrying.{members_so, members_faulty, row_judged}
use Rattle.type_checker.proofs.finishing.set_typed.Goals as goal

pub returns-in-Err : goal.returns-in-Err
returns-in-Err c = λ env K after xs h n.
    faults.fault_in_operand (faults.of_set xs) (members_faulty env K after xs c.in-Err.is h n)

pub returns : goal.returns
returns c = λ env K after xs h.
    let t = members_so env K after xs c.in-Ok.is h in
    let row = subst (λ j. Answers c.set_literal_type.result j) (sym t.1.2) c.set_literal_type.ensures in
    row_judged env K after (form.Set xs) _ _ _ row c.typed_row.ensures t.0
    (λ u e. typing.types_set xs t.1.1 e) (λ m e. faults.fault_of_set xs t.1.1 e)
