use Rattle.grammar_core.specs.declared.expr.Expr.TheVariants as form
use Rattle.typing.specs.Typing as typing
use Rattle.typing.specs.Faults as faults
use Rattle.type_checker.proofs.Carrying.{typed_so, faulty_so, row_judged}
use Rattle.type_checker.proofs.finishing.unary_typed.Goals as goal

pub returns-in-Err : goal.returns-in-Err
returns-in-Err c = λ env K after a h n.
    faults.fault_in_operand (faults.of_unary c.args.operator.now a) (faults.fault_here (faulty_so env K after a c.in-Err.is h n))

pub returns : goal.returns
returns c = λ env K after a h.
    let t = typed_so env K after a c.in-Ok.is h in
    let op = c.args.operator.now in
    row_judged env K after (form.Unary op a) _ _ _ c.unary_type.ensures.row c.typed_row.ensures t.0
    (λ u e. typing.types_unary op a t.1 e) (λ m e. faults.fault_of_unary op a t.1 e)
