-- Defines the answer to a request, over policies and stored entities.
-- Source: Cedar reference guide 4.0, "Authorization" (default deny, forbid overrides permit, skip on error);
-- cedar-spec, Spec/Authorizer.
-- Rules of this product: over a hierarchy with a cycle the answer is a denial that names the least cycle.
use Rattle.std.specs.Prelude.{◌≡◌, ◌⊎◌, ℕ, List, [], ◌∷◌, true, false, Ok, Err}
use Rattle.std.specs.List.{flat_map}
use Rattle.values.specs.declared.entity_uid.EntityUid.{EntityUid}
use Rattle.values.specs.declared.request.Request.{Request}
use Rattle.values.specs.Values.{boolean}
use Rattle.evaluator.specs.ancestor_search.Hierarchy.{Parents, IsAncestor}
use Rattle.evaluator.specs.ancestor_search.LeastCycle.{IsLeastCycle}
use Rattle.scope_index.specs.policy_grammar.declared.policy.Policy.{Policy}
use Rattle.scope_index.specs.policy_grammar.declared.policy.Effect.{Effect}
use Rattle.scope_index.specs.policy_grammar.declared.policy.Effect.TheVariants.{Permit, Forbid}
use Rattle.scope_index.specs.policy_grammar.PolicyExpression.{expression_of}
use Rattle.evaluator.specs.declared.fault.EvalFault.{EvalFault}
use Rattle.evaluator.specs.declared.fault.EvalFault.TheVariants as fault
use Rattle.evaluator.specs.Operators.{Entities}
use Rattle.evaluator.specs.Evaluation.{EvaluatesTo}
use Rattle.authoriser.specs.declared.answer.Answer.{Answer}
use Rattle.authoriser.specs.declared.answer.Decision.TheVariants.{Allow, Deny}
use Rattle.authoriser.specs.declared.answer.ErringPolicy.{ErringPolicy}
use Rattle.authoriser.specs.declared.outcome.Outcome.{Outcome}
use Rattle.authoriser.specs.declared.outcome.Outcome.TheVariants.{Satisfied, NotSatisfied, Errs}
use Rattle.authoriser.specs.declared.outcome.PolicyError.{PolicyError}
use Rattle.authoriser.specs.declared.outcome.PolicyError.TheVariants.{EntityDoesNotExist, AttrDoesNotExist, TypeError}
use Rattle.authoriser.specs.declared.outcome.PolicyError.TheVariants.{ArithBoundsError, ExtensionError}

-- A `NamedPolicy` is a policy with its id.
pub record NamedPolicy : Type 0 where
  pub id : List ℕ
  pub policy : Policy

-- `fault_of error` is the evaluation error that the policy error `error` reports.
abbrev pub fault_of : PolicyError → EvalFault
fault_of EntityDoesNotExist = fault.EntityDoesNotExist
fault_of AttrDoesNotExist = fault.AttrDoesNotExist
fault_of TypeError = fault.TypeError
fault_of ArithBoundsError = fault.ArithBoundsError
fault_of ExtensionError = fault.ExtensionError

-- `PolicyEvaluatesTo W q policy outcome` holds if `outcome` is the result of evaluating the whole expression of
-- `policy` under the request `q`, over the entity data `W`.
abbrev pub PolicyEvaluatesTo : Entities → Request → Policy → Outcome → Type 0
PolicyEvaluatesTo W q policy Satisfied = EvaluatesTo W q (expression_of policy) (Ok (boolean true))
PolicyEvaluatesTo W q policy NotSatisfied = EvaluatesTo W q (expression_of policy) (Ok (boolean false))
PolicyEvaluatesTo W q policy (Errs error) = EvaluatesTo W q (expression_of policy) (Err (fault_of error))

-- A `PolicyOutcome` is the id, the effect and the outcome of a policy.
pub record PolicyOutcome : Type 0 where
  pub id : List ℕ
  pub effect : Effect
  pub outcome : Outcome

-- `IsPolicyOutcome W q p j` holds if `j` has the id, the effect and the outcome of the policy `p` under the request
-- `q`, over the entity data `W`.
pub record IsPolicyOutcome (W : Entities) (q : Request) (p : NamedPolicy) (j : PolicyOutcome) : Type 0 where
  pub id : j.id ≡ p.id
  pub effect : j.effect ≡ p.policy.effect
  pub outcome : PolicyEvaluatesTo W q p.policy j.outcome

-- `ArePolicyOutcomes W q ps js` holds if `js` are the outcomes of the policies `ps` under the request `q`, over the
-- entity data `W`, in order.
abbrev pub ArePolicyOutcomes : Entities → Request → List NamedPolicy → List PolicyOutcome → Type 0
ArePolicyOutcomes W q [] [] = Unit {0}
ArePolicyOutcomes W q [] (j ∷ js) = ⊥
ArePolicyOutcomes W q (p ∷ ps) [] = ⊥
ArePolicyOutcomes W q (p ∷ ps) (j ∷ js) = IsPolicyOutcome W q p j × ArePolicyOutcomes W q ps js

-- `id_if wanted effect outcome id` is `id ∷ []` if `outcome` is `Satisfied` and `effect` is `wanted`, else `[]`.
abbrev id_if : Effect → Effect → Outcome → List ℕ → List (List ℕ)
id_if Permit Permit Satisfied id = id ∷ []
id_if Forbid Forbid Satisfied id = id ∷ []
id_if wanted effect outcome id = []

-- `error_of outcome id` is the list of one item, the id `id` with the error in `outcome`; or `[]` if `outcome` has no
-- error.
abbrev error_of : Outcome → List ℕ → List ErringPolicy
error_of (Errs error) id = record { policy = id; error = error } ∷ []
error_of Satisfied id = []
error_of NotSatisfied id = []

-- `if_satisfied wanted j` is the one-item list of `j`'s id if `j` is satisfied and has the effect `wanted`, else `[]`.
abbrev pub if_satisfied : Effect → PolicyOutcome → List (List ℕ)
if_satisfied wanted j = id_if wanted j.effect j.outcome j.id

-- `satisfied wanted js` are the ids of the satisfied policies of `js` whose effect is `wanted`, in order.
abbrev pub satisfied : Effect → List PolicyOutcome → List (List ℕ)
satisfied wanted js = flat_map (if_satisfied wanted) js

-- `if_erring j` is the list of one item, the id of `j` with its error, if `j` is erroring; else `[]`.
abbrev pub if_erring : PolicyOutcome → List ErringPolicy
if_erring j = error_of j.outcome j.id

-- `erring js` are the erroring policies of `js`, each with its error, in order.
abbrev pub erring : List PolicyOutcome → List ErringPolicy
erring js = flat_map if_erring js

-- `decided permits forbids errors` is the answer that follows from the satisfied permits `permits`, the satisfied
-- forbids `forbids` and the errors `errors`: an allow if there is a permit and no forbid, else a denial. The `reason`
-- (Cedar's determining policies) of an allow is the permits, that of a denial the forbids.
abbrev pub decided : List (List ℕ) → List (List ℕ) → List ErringPolicy → Answer
decided permits (f ∷ forbids) errors = record { decision = Deny; reason = f ∷ forbids; errors = errors; cycle = [] }
decided [] [] errors = record { decision = Deny; reason = []; errors = errors; cycle = [] }
decided (p ∷ permits) [] errors = record { decision = Allow; reason = p ∷ permits; errors = errors; cycle = [] }

-- `answer_by js` is the answer that follows from the outcomes `js` of the policies.
abbrev pub answer_by : List PolicyOutcome → Answer
answer_by js = decided (satisfied Permit js) (satisfied Forbid js) (erring js)

-- `IsCycleDenial parents a` holds if some entity of the hierarchy `parents` is cyclic, and `a` is a denial that names
-- the least cycle and no policies.
pub record IsCycleDenial (parents : Parents) (a : Answer) : Type 0 where
  pub least : IsLeastCycle parents a.cycle
  pub rest : a ≡ record { decision = Deny; reason = []; errors = []; cycle = a.cycle }

-- `IsPolicyAnswer W q ps a` holds if no entity of `W` is cyclic, and `a` is the answer that follows from the outcomes
-- of the policies `ps` under the request `q`, over `W`.
pub record IsPolicyAnswer (W : Entities) (q : Request) (ps : List NamedPolicy) (a : Answer) : Type 0 where
  pub acyclic : (uid : EntityUid) → IsAncestor W.parents uid uid → ⊥
  pub policy_outcomes : List PolicyOutcome
  pub outcomes : ArePolicyOutcomes W q ps policy_outcomes
  pub answer : a ≡ answer_by policy_outcomes

-- `IsAnswer W q ps a` holds if `a` is the answer to the request `q` over the policies `ps` and the entity data `W`. If
-- there is a cycle, `a` is a denial that names the least cycle; else `a` follows from the outcomes of the policies.
abbrev pub IsAnswer : Entities → Request → List NamedPolicy → Answer → Type 0
IsAnswer W q ps a = IsCycleDenial W.parents a ⊎ IsPolicyAnswer W q ps a
