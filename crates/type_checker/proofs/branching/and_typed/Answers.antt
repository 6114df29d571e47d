use Rattle.std.proofs.Common.{sym, ap, ◌∙◌}
use Rattle.typing.specs.Rows as rows
use Rattle.typing.specs.Faults as faults
use Rattle.type_checker.specs.Views.{boolean_view}
use Rattle.type_checker.proofs.Carrying.{behind_so, behind_faulty, boolean_so, and_judged}
use Rattle.type_checker.proofs.branching.and_typed.Goals as goal

pub returns-in-Err : goal.returns-in-Err
returns-in-Err c = λ env K L after a b h m g n.
    faults.fault_right_of_and a b h m (behind_faulty env K after L b c.in-Err.is g n)

pub returns-in-Some : goal.returns-in-Some
returns-in-Some c = λ env K L after a b h m g.
    let t = behind_so env K after L b c.in-Ok.is g in
    let e = c.in-Some.ensures in
    let kind = c.boolean.ensures ∙ (c.and_truth.ensures ∙ ap (λ s. rows.and_type (boolean_view c.args.left) s) (sym e)) in
    (t.0, and_judged env K after a b h m t.1.1 (boolean_so c.in-Some.truth e) kind t.1.2)

pub returns-in-None : goal.returns-in-None
returns-in-None c = λ env K L after a b h m g n.
    let t = behind_so env K after L b c.in-Ok.is g in
    faults.right_of_and_no_boolean a b h m t.1.1 c.in-None.ensures
