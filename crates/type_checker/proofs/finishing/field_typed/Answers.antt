use Rattle.std.proofs.Common.{Contains, subst}
use Rattle.std.specs.Bool.{Decides}
use Rattle.grammar_core.specs.declared.expr.Expr.TheVariants as form
use Rattle.typing.specs.Gained as gained
use Rattle.typing.specs.Typing as typing
use Rattle.typing.specs.Faults as faults
use Rattle.type_checker.specs.Views.{typing_environment}
use Rattle.type_checker.proofs.Carrying.{typed_so, faulty_so, row_judged}
use Rattle.type_checker.proofs.finishing.field_typed.Goals as goal

pub returns-in-Err : goal.returns-in-Err
returns-in-Err c = λ K h n.
    let a = c.args.owner.now in
    faults.fault_in_operand (faults.of_field a c.args.name.now)
    (faults.fault_here (faulty_so (typing_environment c.args.env) K c.args.known.now a c.in-Err.is h n))

pub returns : goal.returns
returns c = λ K h.
    let E = typing_environment c.args.env in
    let a = c.args.owner.now in
    let k = c.args.name.now in
    let after = c.args.known.now in
    let t = typed_so E K after a c.in-Ok.is h in
    let p : gained.Capability = (a, k) in
    let d = subst (λ M. Decides c.knows-is_known.result (Contains M p)) t.0 c.knows-is_known.ensures in
    row_judged E K after (form.Field a k) _ _ _ c.field_type-row.ensures.row c.typed_row.ensures t.0
    (λ u e. typing.types_field a k t.1 d e) (λ m e. faults.fault_of_field a k t.1 d e)
