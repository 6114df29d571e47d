use Rattle.typing.specs.Rows as rows
use Rattle.typing.specs.Typing as typing
use Rattle.typing.specs.Faults as faults
use Rattle.type_checker.proofs.Carrying.{typed_so, faulty_so, boolean_so}
use Rattle.type_checker.proofs.branching.or_behind_false.Goals as goal

pub returns-in-Err : goal.returns-in-Err
returns-in-Err c = λ env K L after a b h g n.
    faults.fault_right_of_or a b h rows.surely_not (faulty_so env K after b c.in-Err.is g n)

pub returns-in-Some : goal.returns-in-Some
returns-in-Some c = λ env K L after a b h g.
    let t = typed_so env K after b c.in-Ok.is g in
    (t.0, typing.or_of_false a b h t.1 (boolean_so _ c.in-Some.ensures))

pub returns-in-None : goal.returns-in-None
returns-in-None c = λ env K L after a b h g n.
    let t = typed_so env K after b c.in-Ok.is g in
    faults.right_of_or_no_boolean a b h rows.surely_not t.1 c.in-None.ensures
