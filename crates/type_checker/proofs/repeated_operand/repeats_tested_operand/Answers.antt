use Rattle.type_checker.proofs.repeated_operand.repeats_tested_operand.Goals as goal

pub returns : goal.returns
returns c = λ t.
    (c.same_expr.ensures t, c.result_may_be_true.ensures c.if-not-result_may_be_true.false, c.is_undecided_by_literals.ensures c.if-not-is_undecided_by_literals.false)
