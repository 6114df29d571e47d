use Rattle.std.proofs.Common.{refl, sym, subst}
use Rattle.std.proofs.lemmas.Result.{IfOk-weaker}
use Rattle.std.specs.Prelude.{IfOk}
use Rattle.grammar_core.specs.declared.expr.Expr.{Expr}
use Rattle.scope_index.specs.policy_grammar.declared.policy.Scope.{Scope}
use Rattle.evaluator.specs.Operators.{entities_with}
use Rattle.authoriser.specs.Answers.{PolicyEvaluatesTo}
use Rattle.authoriser.specs.inner.Views.{ConditionEvaluatesTo, IsTrueOf}
use Rattle.authoriser.proofs.Judging.{true_scope, other_scope}
use Rattle.authoriser.proofs.conditions.outcome_of.Goals as goal

pub returns-then-is_scope_true : goal.returns-then-is_scope_true
returns-then-is_scope_true g c =
    let k = c.args.prepared.now in
    let W = entities_with (g.L.Lookup.stored k.0) (g.L.Ancestry.parents k.0) in
    let s = c.request_entities.result.now in
    let policy = c.args.policy.now in
    IfOk-weaker c.outcome_of_condition.result (ConditionEvaluatesTo W k.1 policy.condition) (PolicyEvaluatesTo W k.1 policy)
    (λ o comes. true_scope c.scopes_do_not_err.ensures.leaves W k.1 s policy o c.request_entities.ensures (subst (λ (x : Scope). IsTrueOf x s) c.deref.ensures (c.if-is_scope_true.ensures.0 refl)) comes)
    (subst (λ (e : Expr). IfOk c.outcome_of_condition.result (ConditionEvaluatesTo W k.1 e)) c.deref-then-is_scope_true.ensures c.outcome_of_condition.ensures)

pub returns-else-is_scope_true : goal.returns-else-is_scope_true
returns-else-is_scope_true g c =
    let k = c.args.prepared.now in
    let W = entities_with (g.L.Lookup.stored k.0) (g.L.Ancestry.parents k.0) in
    let s = c.request_entities.result.now in
    other_scope c.scopes_do_not_err.ensures.idle W (g.L.Ancestry.ancestor_test k.0) (g.met.L.Ancestry.ancestor_test_decides k.0) k.1 s c.args.policy.now c.request_entities.ensures
    (λ h. let t = c.if-is_scope_true.ensures.1 (subst (λ (x : Scope). IsTrueOf x s) (sym c.deref.ensures) h) in cc t)
