-- Defines the expression of a policy: the three parts of its scope and its conditions, joined by `&&` and grouped to
-- the right.
-- Source: Cedar reference guide 4.0, "Basic policy construction" (scope, conditions); cedar-spec,
-- cedar-lean/Cedar/Spec/Policy.lean (`Policy.toExpr`).
-- Rules of this product: a part without a constraint is `true`, and `action in []` is `false`.
use Rattle.std.specs.Prelude.{true, false, [], ◌∷◌, map}
use Rattle.values.specs.declared.entity_uid.EntityUid.{EntityUid}
use Rattle.grammar_core.specs.declared.leaf.Literal.TheVariants as literal
use Rattle.grammar_core.specs.declared.leaf.Variable.{Variable}
use Rattle.grammar_core.specs.declared.leaf.Variable.TheVariants.{Principal, Action, Resource}
use Rattle.grammar_core.specs.declared.operator.Unary.TheVariants.{Is}
use Rattle.grammar_core.specs.declared.operator.Binary.TheVariants.{Equal, In}
use Rattle.grammar_core.specs.declared.expr.Expr.{Expr}
use Rattle.grammar_core.specs.declared.expr.Expr.TheVariants as core
use Rattle.policy_grammar.specs.declared.policy.EntityScope.{EntityScope}
use Rattle.policy_grammar.specs.declared.policy.EntityScope.TheVariants as entity
use Rattle.policy_grammar.specs.declared.policy.ActionScope.{ActionScope}
use Rattle.policy_grammar.specs.declared.policy.ActionScope.TheVariants as action
use Rattle.policy_grammar.specs.declared.policy.Policy.{Policy}

-- `truth` and `falsehood` are the literals `true` and `false`.
abbrev pub truth : Expr
truth = core.Literal (literal.Boolean true)

abbrev pub falsehood : Expr
falsehood = core.Literal (literal.Boolean false)

-- `entity_literal uid` is the literal of the entity `uid`.
abbrev pub entity_literal : EntityUid → Expr
entity_literal uid = core.Literal (literal.Entity uid)

-- `is_equal x uid` is `x == uid`; `is_in x uid` is `x in uid`.
abbrev pub is_equal : Variable → EntityUid → Expr
is_equal x uid = core.Binary Equal (core.Variable x) (entity_literal uid)

abbrev pub is_in : Variable → EntityUid → Expr
is_in x uid = core.Binary In (core.Variable x) (entity_literal uid)

-- `entity_part x scope` is the expression of the constraint `scope` on the variable `x`, the principal or the resource.
abbrev pub entity_part : Variable → EntityScope → Expr
entity_part x entity.Any = truth
entity_part x (entity.Equal uid) = is_equal x uid
entity_part x (entity.In uid) = is_in x uid
entity_part x (entity.Is name) = core.Unary (Is name) (core.Variable x)
entity_part x (entity.IsIn name uid) = core.And (core.Unary (Is name) (core.Variable x)) (is_in x uid)

-- `action_part scope` is the expression of the constraint `scope` on the action.
abbrev pub action_part : ActionScope → Expr
action_part action.Any = truth
action_part (action.Equal uid) = is_equal Action uid
action_part (action.In uid) = is_in Action uid
action_part (action.InList []) = falsehood
action_part (action.InList (uid ∷ uids)) =
    core.Binary In (core.Variable Action) (core.Set (map entity_literal (uid ∷ uids)))

-- `expression_of policy` is the expression of `policy`: `principal && (action && (resource && condition))`.
abbrev pub expression_of : Policy → Expr
expression_of policy = core.And (entity_part Principal policy.scope.principal)
    (core.And (action_part policy.scope.action)
    (core.And (entity_part Resource policy.scope.resource) policy.condition))
