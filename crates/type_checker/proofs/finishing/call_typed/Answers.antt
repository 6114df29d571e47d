use Rattle.grammar_core.specs.declared.expr.Expr.TheVariants as form
use Rattle.typing.specs.Typing as typing
use Rattle.typing.specs.Faults as faults
use Rattle.type_checker.proofs.Carrying.{typed_so, faulty_so, row_judged}
use Rattle.type_checker.proofs.finishing.call_typed.Goals as goal

pub returns-in-Err : goal.returns-in-Err
returns-in-Err c = λ env K after a b h g m.
    faults.fault_in_operand (faults.of_binary_call c.args.called a b)
    (faults.fault_later h (faults.fault_here (faulty_so env K after b c.in-Err.is g m)))

pub returns : goal.returns
returns c = λ env K after a b h g.
    let t = typed_so env K after b c.in-Ok.is g in
    let op = c.args.called in
    row_judged env K after (form.BinaryCall op a b) _ _ _ c.call_type.ensures.row c.typed_row.ensures t.0
    (λ u e. typing.types_call op a b h t.1 e) (λ m e. faults.fault_of_call op a b h t.1 e)
