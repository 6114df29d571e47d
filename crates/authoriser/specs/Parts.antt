-- Defines the role of a policy's scope in its whole expression: each part of a scope evaluates to a boolean, and if all
-- parts are true, the condition determines the outcome.
-- Source: Cedar reference guide 4.0, "Policy scope" and "Policy conditions"; cedar-spec, Spec/Policy
-- (`Policy.toExpr`).
use Rattle.std.specs.Prelude.{Bool, true, false, Ok, Err}
use Rattle.values.specs.declared.entity_uid.EntityUid.{EntityUid}
use Rattle.values.specs.declared.request.Request.{Request}
use Rattle.values.specs.Values.{boolean}
use Rattle.evaluator.specs.ancestor_search.Decided.{Decides}
use Rattle.grammar_core.specs.declared.leaf.Variable.TheVariants.{Principal, Resource}
use Rattle.grammar_core.specs.declared.expr.Expr.{Expr}
use Rattle.scope_index.specs.policy_grammar.declared.policy.Policy.{Policy}
use Rattle.scope_index.specs.policy_grammar.declared.policy.Scope.{Scope}
use Rattle.scope_index.specs.policy_grammar.PolicyExpression.{entity_part, action_part, expression_of}
use Rattle.evaluator.specs.declared.fault.EvalFault.{EvalFault}
use Rattle.evaluator.specs.Operators.{Entities}
use Rattle.evaluator.specs.Evaluation.{EvaluatesTo, TestFails}
use Rattle.evaluator.specs.ancestor_search.Hierarchy.{IsIn}
use Rattle.scope_index.specs.Scopes.{IsEntityScopeTrue, IsActionScopeTrue, IsScopeTrue}

-- `GivesWhether W q x P` holds if, under the request `q` and over the entities of `W`, the expression `x` evaluates to
-- true if `P` holds, and to false if `P` does not hold.
abbrev pub GivesWhether : Entities → Request → Expr → Type 0 → Type 0
GivesWhether W q x P = (P → EvaluatesTo W q x (Ok (boolean true))) × (¬ P → EvaluatesTo W q x (Ok (boolean false)))

-- `PartsDecide W q scope` holds if, over the entities of `W`, each part of `scope` as an expression evaluates to true
-- if the part is true of the request `q`, and to false otherwise.
pub record PartsDecide (W : Entities) (q : Request) (scope : Scope) : Type 0 where
  pub principal : GivesWhether W q (entity_part Principal scope.principal)
      (IsEntityScopeTrue (IsIn W.parents q.principal) scope.principal q.principal)
  pub action : GivesWhether W q (action_part scope.action)
      (IsActionScopeTrue (IsIn W.parents q.action) scope.action q.action)
  pub resource : GivesWhether W q (entity_part Resource scope.resource)
      (IsEntityScopeTrue (IsIn W.parents q.resource) scope.resource q.resource)

-- `ConditionDecides W q policy` holds if, under the request `q` and over the entities of `W`, the whole expression of
-- `policy` has the outcome of the policy's condition. This is the condition's boolean, or the error with which the
-- condition fails (`TestFails` of evaluator).
pub record ConditionDecides (W : Entities) (q : Request) (policy : Policy) : Type 0 where
  pub gives : (t : Bool) → EvaluatesTo W q policy.condition (Ok (boolean t))
      → EvaluatesTo W q (expression_of policy) (Ok (boolean t))
  pub errs : (e : EvalFault) → TestFails W q policy.condition e → EvaluatesTo W q (expression_of policy) (Err e)

-- `ScopesDoNotErr`: each part of a scope, as an expression, evaluates to true if the part is true of the request, and
-- to false if the part is not true of it.
abbrev pub ScopesDoNotErr : Type 0
ScopesDoNotErr = (W : Entities) (q : Request) (scope : Scope) → PartsDecide W q scope

-- `TrueScopesLeaveToConditions`: if the scope of a policy is true, the policy has the outcome of its condition.
abbrev pub TrueScopesLeaveToConditions : Type 0
TrueScopesLeaveToConditions = (W : Entities) (q : Request) (policy : Policy) → IsScopeTrue W.parents policy.scope q
    → ConditionDecides W q policy

-- `OtherScopesGiveFalse`: if a test decides the ancestor relation, a policy whose scope is not true evaluates to false,
-- whatever its condition is.
abbrev pub OtherScopesGiveFalse : Type 0
OtherScopesGiveFalse = (W : Entities) (ancestor_test : EntityUid → EntityUid → Bool) → Decides W.parents ancestor_test
    → (q : Request) (policy : Policy) →
    ¬ IsScopeTrue W.parents policy.scope q → EvaluatesTo W q (expression_of policy) (Ok (boolean false))
