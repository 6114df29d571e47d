use Rattle.typing.specs.Faults as faults
use Rattle.type_checker.proofs.Carrying.{typed_so, faulty_so, call_judged}
use Rattle.type_checker.proofs.finishing.unary_call_typed.Goals as goal

pub returns-in-Err : goal.returns-in-Err
returns-in-Err c = λ env K after h n.
    let a = c.args.operand.now in
    faults.fault_in_operand (faults.of_unary_call c.args.called a) (faults.fault_here (faulty_so env K after a c.in-Err.is h n))

pub returns : goal.returns
returns c = λ env K after h.
    let a = c.args.operand.now in
    let t = typed_so env K after a c.in-Ok.is h in
    call_judged env K after c.args.called a _ _ _ _ c.unary_call_type.ensures c.typed_row.ensures t.0 t.1
