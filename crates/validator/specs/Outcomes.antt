-- Defines the theorems about validation: each policy has exactly one outcome, and validation is sound.
use Rattle.std.specs.Prelude.{◌≡◌, ◌≢◌, Bool, true, [], All, Contains, Ok}
use Rattle.values.specs.declared.entity_uid.EntityUid.{EntityUid}
use Rattle.values.specs.declared.request.Request.{Request}
use Rattle.values.specs.Values.{boolean}
use Rattle.type_checker.specs.ancestor_search.Decided as hierarchy
use Rattle.type_checker.specs.policy_grammar.declared.policy.Policy.{Policy}
use Rattle.type_checker.specs.policy_grammar.PolicyExpression.{expression_of}
use Rattle.type_checker.specs.schema.Schemas.{StatedSchema}
use Rattle.type_checker.specs.evaluator.Operators.{Entities}
use Rattle.type_checker.specs.evaluator.Outcomes as evaluation
use Rattle.type_checker.specs.evaluator.Evaluation.{EvaluatesTo}
use Rattle.type_checker.specs.typing.Types.{boolean_type}
use Rattle.type_checker.specs.typing.Environment.{Environment}
use Rattle.type_checker.specs.typing.Conforming.{Conforms, Fits}
use Rattle.type_checker.specs.typing.declared.fault.TypeFault.{TypeFault}
use Rattle.validator.specs.Names.{names_of}
use Rattle.validator.specs.Unknown.{IsKnown}
use Rattle.validator.specs.Passing.{environments_of, Passes, IsImpossible, IsVerdict, IsCheckRefused}

-- A `CheckResult` is `passes b`, where `b` is whether the policy is impossible, or `refused f`, where `f` is the error.
pub data CheckResult : Type 0 where
  passes : Bool → CheckResult
  refused : TypeFault → CheckResult

-- `IsCheckResult s policy o` holds if `o` is an outcome of validating `policy` under the schema `s`.
abbrev pub IsCheckResult : StatedSchema → Policy → CheckResult → Type 0
IsCheckResult s policy (passes impossible) = IsVerdict s policy impossible
IsCheckResult s policy (refused f) = IsCheckRefused s policy f

-- `PoliciesHaveOneOutcome`: each policy has exactly one outcome under each schema.
abbrev pub PoliciesHaveOneOutcome : Type 0
PoliciesHaveOneOutcome = (s : StatedSchema) (policy : Policy)
    → (o : CheckResult) × IsCheckResult s policy o × ((p : CheckResult) → IsCheckResult s policy p → p ≡ o)

-- `PassingIsNotRefused`: a policy that passes validation is not rejected.
abbrev pub PassingIsNotRefused : Type 0
PassingIsNotRefused = (s : StatedSchema) (policy : Policy) (f : TypeFault) → Passes s policy
    → IsCheckRefused s policy f → ⊥

-- `NoEnvironmentIsImpossible`: if a schema has no environment, a policy whose names are all declared passes and is
-- impossible.
abbrev pub NoEnvironmentIsImpossible : Type 0
NoEnvironmentIsImpossible = (s : StatedSchema) (policy : Policy) → s.environments ≡ []
    → All (IsKnown s) (names_of policy) → IsCheckResult s policy (passes true)

-- `PassingPoliciesAreSound`: let a test decide the ancestor relation of the entities, and let the request and the
-- entities conform to an environment of the schema. Each result of the expression of a policy that passes is a boolean,
-- `EntityDoesNotExist` or `ArithBoundsError`; if the policy is impossible, no result is true.
abbrev pub PassingPoliciesAreSound : Type 0
PassingPoliciesAreSound = (s : StatedSchema) (policy : Policy) → Passes s policy
    → (W : Entities) (ancestor_test : EntityUid → EntityUid → Bool) → hierarchy.Decides W.parents ancestor_test
    → (env : Environment) → Contains (environments_of s) env → (q : Request) → Conforms env W q
    → (r : evaluation.EvaluationResult) → EvaluatesTo W q (expression_of policy) r
    → Fits boolean_type r × (IsImpossible s policy → r ≢ Ok (boolean true))
