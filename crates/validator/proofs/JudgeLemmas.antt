-- The result of typing a policy's parts is that of typing its expression, in one environment.
use Rattle.std.specs.Prelude.{◌≡◌, ◌≢◌, List, [], Bool, Ok, Err}
use Rattle.std.specs.Bool.{Decides}
use Rattle.std.proofs.Common.{ap, ◌∙◌, subst, inl, inr}
use Rattle.grammar_core.specs.declared.expr.Expr.{Expr}
use Rattle.type_checker.specs.policy_grammar.declared.policy.Policy.{Policy}
use Rattle.type_checker.specs.policy_grammar.PolicyExpression.{expression_of}
use Rattle.type_checker.specs.typing.Types.{StaticType, false_type}
use Rattle.type_checker.specs.typing.Environment.{Environment}
use Rattle.type_checker.specs.typing.Gained.{CapabilityList}
use Rattle.type_checker.specs.typing.Typing.{Types}
use Rattle.type_checker.specs.typing.Faults.{Faults}
use Rattle.type_checker.specs.typing.Laws.{HaveOneJudgement}
use Rattle.type_checker.specs.Conjunctions.{joined}
use Rattle.type_checker.specs.typing.declared.fault.TypeFault.{TypeFault}
use Rattle.type_checker.specs.typing.declared.fault.TypeFault.TheVariants.{NoMemory}
use Rattle.validator.specs.Passing.{HasType, HasBooleanType}
use Rattle.validator.specs.inner.Checking.{scope_parts, IsJudged}
use Rattle.validator.proofs.OutcomeLemmas.{IsTest, policy_is_test, one_type, typed_or_faulty}

module _ (one : HaveOneJudgement) (policy : Policy) (parts : List Expr) (are : parts ≡ scope_parts policy.scope)
    (env e : Environment) (same : env ≡ e) where
  whole : joined parts policy.condition ≡ expression_of policy
  whole = ap (λ es. joined es policy.condition) are

  boolean_there : (t : StaticType) → HasType (expression_of policy) t e → IsTest e (expression_of policy)
      → HasBooleanType (expression_of policy) e
  boolean_there t h (inl b) = b
  boolean_there t h (inr f) = absurd (typed_or_faulty one (expression_of policy) e t f.0 h f.1)

  pub judged_typed : (t : StaticType) → ((L : CapabilityList) × Types env [] (joined parts policy.condition) t L) → (b : Bool)
      → Decides b (t ≡ false_type) → IsJudged e (expression_of policy) (Ok b)
  judged_typed t h b d =
      let typed : HasType (expression_of policy) t e = (h.0, subst (λ v. Types v [] (expression_of policy) t h.0) same (subst (λ x. Types env [] x t h.0) whole h.1)) in (
        boolean_there t typed (policy_is_test one policy e),
        (
          (λ i. subst (λ s. HasType (expression_of policy) s e) (d.0 i) typed),
          λ g. d.1 (one_type one (expression_of policy) e t false_type typed g),
        ),
      )

  pub judged_faulty : (f : TypeFault) → (f ≢ NoMemory → Faults env [] (joined parts policy.condition) f)
      → IsJudged e (expression_of policy) (Err f)
  judged_faulty f h = λ n. subst (λ v. Faults v [] (expression_of policy) f) same (subst (λ x. Faults env [] x f) whole (h n))
