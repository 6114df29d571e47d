use Rattle.std.proofs.Common.{sym, subst}
use Rattle.grammar_core.specs.declared.expr.Expr.TheVariants as form
use Rattle.typing.specs.Typing as typing
use Rattle.typing.specs.Typing.{Types}
use Rattle.typing.specs.Faults as faults
use Rattle.type_checker.specs.Views.{typing_environment}
use Rattle.type_checker.proofs.Carrying.{typed_so, faulty_so, row_judged}
use Rattle.type_checker.proofs.repeated_operand.repeated_operand_typed.Goals as goal

pub returns-in-Err : goal.returns-in-Err
returns-in-Err c = λ K L after a b n h g m.
    faults.fault_in_operand (faults.of_binary c.args.operator a b n)
    (faults.fault_later h (faults.fault_here (faulty_so (typing_environment c.args.env) K after b c.in-Err.is g m)))

pub returns : goal.returns
returns c = λ K L after a b n h g.
    let E = typing_environment c.args.env in
    let t = typed_so E K after b c.in-Ok.is g in
    let op = c.args.operator in
    let k = subst (λ s. Types E K a s L) (sym c.of_entities.ensures) h in
    row_judged E K after (form.Binary op a b) _ _ _ c.binary_type.ensures.row c.typed_row.ensures t.0
    (λ u e. typing.types_binary op a b n k t.1 e) (λ m e. faults.fault_of_binary op a b n k t.1 e)
