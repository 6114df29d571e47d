use Rattle.typing.specs.Faults as faults
use Rattle.type_checker.proofs.Carrying.{typed_so, faulty_so, branches_judged}
use Rattle.type_checker.proofs.branching.branches.Goals as goal

pub returns-in-Err : goal.returns-in-Err
returns-in-Err c = λ env K after a b x h g n.
    faults.fault_in_else a b x h.2 h.3 (faulty_so env K after x c.in-Err.is g n)

pub returns : goal.returns
returns c = λ env K after a b x h g.
    let t = typed_so env K after x c.in-Ok.is g in
    branches_judged env K after a b x c.args.then c.in-Ok.other _ _ _ h t.1 c.common.ensures.is c.branch_type-kind.ensures c.with_both-row.ensures t.0
