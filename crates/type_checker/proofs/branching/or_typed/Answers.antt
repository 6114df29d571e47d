use Rattle.std.proofs.Common.{IfOk, subst, ◌∙◌}
use Rattle.typing.specs.Gained.{OrGains}
use Rattle.typing.specs.Rows as rows
use Rattle.typing.specs.Faults as faults
use Rattle.type_checker.specs.Views.{boolean_view}
use Rattle.type_capabilities.specs.CapabilityList.{capabilities}
use Rattle.type_checker.proofs.Carrying.{typed_so, faulty_so, or_judged}
use Rattle.type_checker.proofs.branching.or_typed.Goals as goal

pub returns-in-Err : goal.returns-in-Err
returns-in-Err c = λ env K after a b h g n.
    faults.fault_right_of_or a b h rows.perhaps_not (faulty_so env K after b c.in-Err.is g n)

pub returns-in-Ok-gains : goal.returns-in-Ok-gains
returns-in-Ok-gains c = λ env K after a b h g.
    let t = typed_so env K after b c.in-Ok.is g in
    let r = c.in-Some.truth in
    let gains = subst (λ ps. IfOk ps (λ both. OrGains (boolean_view r) (capabilities c.args.left.items)
    (capabilities c.in-Ok.right.gains.items) (capabilities both.items))) c.in-Ok-gains.is c.or_gains-gains.ensures in
    (t.0, or_judged env K after a b r h t.1 c.in-Some.ensures (c.boolean.ensures ∙ c.or_truth.ensures) gains)

pub returns-in-None : goal.returns-in-None
returns-in-None c = λ env K after a b h g n.
    let t = typed_so env K after b c.in-Ok.is g in
    faults.right_of_or_no_boolean a b h rows.perhaps_not t.1 c.in-None.ensures
