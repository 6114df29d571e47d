use Rattle.std.proofs.Common.{◌≡◌, ◌+◌, ◌*◌, max, drop, ◌++◌, map, Ok, []}
use Rattle.grammar_core.specs.declared.expr.Expr.{size-Expr}
use Rattle.evaluator.specs.inner.Computing.{decided_entities, and_then, meaning, named_meaning, each, each_field}
use Rattle.evaluator.proofs.+evaluate.Given as goal

abbrev pub invariant-evaluating::set_of-loop-member : goal.invariant-evaluating::set_of-loop-member
invariant-evaluating::set_of-loop-member g l =
    let gives = meaning (g.L.EvalEnv.request_of l.env) (decided_entities (g.L.Lookup.stored l.env) (g.L.Ancestry.ancestor_test l.env)) in
    each (map gives l.members) ≡ and_then (each (map gives (drop l.member-index l.members))) (λ rest. Ok (l.values.items ++ rest))

abbrev pub invariant-evaluating::record_of-loop-field : goal.invariant-evaluating::record_of-loop-field
invariant-evaluating::record_of-loop-field g l =
    let gives = named_meaning (g.L.EvalEnv.request_of l.env) (decided_entities (g.L.Lookup.stored l.env) (g.L.Ancestry.ancestor_test l.env)) in
    each_field (map gives l.fields) [] ≡ each_field (map gives (drop l.field-index l.fields)) l.record

-- What goes down two or three operands is as deep as the deepest of them.
abbrev pub decreases-evaluating::outcome_of : goal.decreases-evaluating::outcome_of
decreases-evaluating::outcome_of g l = 4 * goal.size-evaluating::outcome_of g l + 0

abbrev pub decreases-testing::test_of : goal.decreases-testing::test_of
decreases-testing::test_of g l = 4 * goal.size-testing::test_of g l + 1

abbrev pub decreases-testing::binary_test : goal.decreases-testing::binary_test
decreases-testing::binary_test g l = 4 * max (size-Expr l.left.now) (size-Expr l.right.now) + 4

abbrev pub decreases-testing::has_test : goal.decreases-testing::has_test
decreases-testing::has_test g l = 4 * goal.size-testing::has_test g l + 1

abbrev pub decreases-testing::two_numbers : goal.decreases-testing::two_numbers
decreases-testing::two_numbers g l = 4 * max (size-Expr l.left.now) (size-Expr l.right.now) + 2

abbrev pub decreases-testing::number_of : goal.decreases-testing::number_of
decreases-testing::number_of g l = 4 * goal.size-testing::number_of g l + 1

abbrev pub decreases-testing::field_number : goal.decreases-testing::field_number
decreases-testing::field_number g l = 4 * goal.size-testing::field_number g l + 2

abbrev pub decreases-choosing::choice_test : goal.decreases-choosing::choice_test
decreases-choosing::choice_test g l = 4 * max (size-Expr l.test.now) (max (size-Expr l.consequent.now) (size-Expr l.alternative.now)) + 2

abbrev pub decreases-choosing::both_test : goal.decreases-choosing::both_test
decreases-choosing::both_test g l = 4 * max (size-Expr l.left.now) (size-Expr l.right.now) + 2

abbrev pub decreases-choosing::either_test : goal.decreases-choosing::either_test
decreases-choosing::either_test g l = 4 * max (size-Expr l.left.now) (size-Expr l.right.now) + 2

abbrev pub decreases-evaluating::one_operand : goal.decreases-evaluating::one_operand
decreases-evaluating::one_operand g l = 4 * goal.size-evaluating::one_operand g l + 1

abbrev pub decreases-evaluating::call_of_one : goal.decreases-evaluating::call_of_one
decreases-evaluating::call_of_one g l = 4 * goal.size-evaluating::call_of_one g l + 1

abbrev pub decreases-evaluating::field_of : goal.decreases-evaluating::field_of
decreases-evaluating::field_of g l = 4 * goal.size-evaluating::field_of g l + 1

abbrev pub decreases-evaluating::has_of : goal.decreases-evaluating::has_of
decreases-evaluating::has_of g l = 4 * goal.size-evaluating::has_of g l + 1

abbrev pub decreases-evaluating::set_of : goal.decreases-evaluating::set_of
decreases-evaluating::set_of g l = 4 * goal.size-evaluating::set_of g l + 1

abbrev pub decreases-evaluating::record_of : goal.decreases-evaluating::record_of
decreases-evaluating::record_of g l = 4 * goal.size-evaluating::record_of g l + 1

abbrev pub decreases-choosing::choice_of : goal.decreases-choosing::choice_of
decreases-choosing::choice_of g l = 4 * max (size-Expr l.test.now) (max (size-Expr l.consequent.now) (size-Expr l.alternative.now)) + 3

abbrev pub decreases-choosing::both_of : goal.decreases-choosing::both_of
decreases-choosing::both_of g l = 4 * max (size-Expr l.left.now) (size-Expr l.right.now) + 3

abbrev pub decreases-choosing::either_of : goal.decreases-choosing::either_of
decreases-choosing::either_of g l = 4 * max (size-Expr l.left.now) (size-Expr l.right.now) + 3

abbrev pub decreases-evaluating::two_operands : goal.decreases-evaluating::two_operands
decreases-evaluating::two_operands g l = 4 * max (size-Expr l.left.now) (size-Expr l.right.now) + 3

abbrev pub decreases-evaluating::call_of_two : goal.decreases-evaluating::call_of_two
decreases-evaluating::call_of_two g l = 4 * max (size-Expr l.left.now) (size-Expr l.right.now) + 3
