use Rattle.std.proofs.Common.{List, map, ap, refl}
use Rattle.grammar_core.specs.declared.expr.Named.{Named}
use Rattle.grammar_core.specs.declared.expr.Expr.{Expr}
use Rattle.grammar_core.specs.declared.expr.Expr.TheVariants as form
use Rattle.typing.proofs.Items.{ops_at, none_at, one_moved, two_moved, three_moved, list_moved}
use Rattle.typing.proofs.operands.operand.Goals as goal

pub returns-in-Literal-clause-item : goal.returns-in-Literal-clause-item
returns-in-Literal-clause-item c = none_at c.args.expr.now _ _ c.args.at c.in-Literal.is (form.outs-Literal _) refl

pub returns-in-Variable-clause-item : goal.returns-in-Variable-clause-item
returns-in-Variable-clause-item c = none_at c.args.expr.now _ _ c.args.at c.in-Variable.is (form.outs-Variable _) refl

pub returns-in-If-clause-item : goal.returns-in-If-clause-item
returns-in-If-clause-item c =
    ops_at c.args.expr.now _ _ c.args.at c.operand_of_three.result c.in-If.is (form.outs-If _ _ _)
    (three_moved _ _ c.deref.ensures c.deref-in-If.ensures c.deref-in-If-2.ensures c.operand_of_three.ensures.item)

pub returns-in-And-clause-item : goal.returns-in-And-clause-item
returns-in-And-clause-item c =
    ops_at c.args.expr.now _ _ c.args.at c.operand_of_two.result c.in-And.is (form.outs-And _ _)
    (two_moved _ _ c.deref-in-And.ensures c.deref-in-And-2.ensures c.operand_of_two.ensures.item)

pub returns-in-Or-clause-item : goal.returns-in-Or-clause-item
returns-in-Or-clause-item c =
    ops_at c.args.expr.now _ _ c.args.at c.operand_of_two-in-Or.result c.in-Or.is (form.outs-Or _ _)
    (two_moved _ _ c.deref-in-Or.ensures c.deref-in-Or-2.ensures c.operand_of_two-in-Or.ensures.item)

pub returns-in-Unary-clause-item : goal.returns-in-Unary-clause-item
returns-in-Unary-clause-item c =
    ops_at c.args.expr.now _ _ c.args.at c.only_operand_at.result c.in-Unary.is (form.outs-Unary _ _)
    (one_moved _ _ c.deref-in-Unary.ensures c.only_operand_at.ensures.item)

pub returns-in-Binary-clause-item : goal.returns-in-Binary-clause-item
returns-in-Binary-clause-item c =
    ops_at c.args.expr.now _ _ c.args.at c.operand_of_two-in-Binary.result c.in-Binary.is (form.outs-Binary _ _ _)
    (two_moved _ _ c.deref-in-Binary.ensures c.deref-in-Binary-2.ensures c.operand_of_two-in-Binary.ensures.item)

pub returns-in-Field-clause-item : goal.returns-in-Field-clause-item
returns-in-Field-clause-item c =
    ops_at c.args.expr.now _ _ c.args.at c.only_operand_at-in-Field.result c.in-Field.is (form.outs-Field _ _)
    (one_moved _ _ c.deref-in-Field.ensures c.only_operand_at-in-Field.ensures.item)

pub returns-in-Has-clause-item : goal.returns-in-Has-clause-item
returns-in-Has-clause-item c =
    ops_at c.args.expr.now _ _ c.args.at c.only_operand_at-in-Has.result c.in-Has.is (form.outs-Has _ _)
    (one_moved _ _ c.deref-in-Has.ensures c.only_operand_at-in-Has.ensures.item)

pub returns-in-Set-clause-item : goal.returns-in-Set-clause-item
returns-in-Set-clause-item c =
    ops_at c.args.expr.now _ _ c.args.at c.member_at.result c.in-Set.is (form.outs-Set _)
    (list_moved _ _ c.as_slice.ensures c.member_at.ensures.item)

pub returns-in-Record-clause-item : goal.returns-in-Record-clause-item
returns-in-Record-clause-item c =
    ops_at c.args.expr.now _ _ c.args.at c.field_at.result c.in-Record.is (form.outs-Record _)
    (list_moved _ _ (ap (λ (fs : List (Named Expr)). map (λ (f : Named Expr). f.value) fs) c.as_slice-in-Record.ensures) c.field_at.ensures.item)

pub returns-in-UnaryCall-clause-item : goal.returns-in-UnaryCall-clause-item
returns-in-UnaryCall-clause-item c =
    ops_at c.args.expr.now _ _ c.args.at c.only_operand_at-in-UnaryCall.result c.in-UnaryCall.is (form.outs-UnaryCall _ _)
    (one_moved _ _ c.deref-in-UnaryCall.ensures c.only_operand_at-in-UnaryCall.ensures.item)

pub returns-in-BinaryCall-clause-item : goal.returns-in-BinaryCall-clause-item
returns-in-BinaryCall-clause-item c =
    ops_at c.args.expr.now _ _ c.args.at c.operand_of_two-in-BinaryCall.result c.in-BinaryCall.is (form.outs-BinaryCall _ _ _)
    (two_moved _ _ c.deref-in-BinaryCall.ensures c.deref-in-BinaryCall-2.ensures c.operand_of_two-in-BinaryCall.ensures.item)
