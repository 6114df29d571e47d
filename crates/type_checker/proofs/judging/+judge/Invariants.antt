use Rattle.std.proofs.Common.{◌≡◌, ◌+◌, ◌*◌, max, map, take}
use Rattle.grammar_core.specs.declared.expr.Expr.{size-Expr}
use Rattle.typing.specs.Typing.{TypesEach}
use Rattle.type_checker.specs.Views.{static_view, typing_environment}
use Rattle.type_checker.proofs.Members.{SoFar}
use Rattle.type_checker.proofs.judging.+judge.Given as goal

abbrev pub invariant-types_of-loop-expr : goal.invariant-types_of-loop-expr
invariant-types_of-loop-expr l =
    (l.known ≡ l.fn.known)
    × SoFar (typing_environment l.env) l.fn.known (take l.expr-index l.exprs) l.before (map static_view l.types.items)

abbrev pub invariant-types_of_fields-loop-field : goal.invariant-types_of_fields-loop-field
invariant-types_of_fields-loop-field l =
    (l.known ≡ l.fn.known)
    × TypesEach (typing_environment l.env) l.fn.known (map (λ f. f.value) (take l.field-index l.fields))
    (map static_view l.types.items)

-- What goes down two operands is as deep as the deeper of them.
abbrev pub decreases-type_of : goal.decreases-type_of
decreases-type_of l = 4 * goal.size-type_of l + 0

abbrev pub decreases-type_under_gained : goal.decreases-type_under_gained
decreases-type_under_gained l = 4 * goal.size-type_under_gained l + 1

abbrev pub decreases-second_conjunct : goal.decreases-second_conjunct
decreases-second_conjunct l = 4 * goal.size-second_conjunct l + 2

abbrev pub decreases-second_disjunct : goal.decreases-second_disjunct
decreases-second_disjunct l = 4 * goal.size-second_disjunct l + 1

abbrev pub decreases-type_then : goal.decreases-type_then
decreases-type_then l = 4 * goal.size-type_then l + 2

abbrev pub decreases-type_else : goal.decreases-type_else
decreases-type_else l = 4 * goal.size-type_else l + 1

abbrev pub decreases-second_operand : goal.decreases-second_operand
decreases-second_operand l = 4 * goal.size-second_operand l + 1

abbrev pub decreases-second_called : goal.decreases-second_called
decreases-second_called l = 4 * goal.size-second_called l + 1

abbrev pub decreases-types_of : goal.decreases-types_of
decreases-types_of l = 4 * goal.size-types_of l + 1

abbrev pub decreases-types_of_fields : goal.decreases-types_of_fields
decreases-types_of_fields l = 4 * goal.size-types_of_fields l + 1

abbrev pub decreases-type_and : goal.decreases-type_and
decreases-type_and l = 4 * max (size-Expr l.left.now) (size-Expr l.right.now) + 3

abbrev pub decreases-type_or : goal.decreases-type_or
decreases-type_or l = 4 * max (size-Expr l.left.now) (size-Expr l.right.now) + 3

abbrev pub decreases-type_binary : goal.decreases-type_binary
decreases-type_binary l = 4 * max (size-Expr l.left.now) (size-Expr l.right.now) + 3
