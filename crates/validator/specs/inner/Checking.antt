-- Defines the parts of a policy's expression that its scope gives, and the result of typing the expression in each
-- environment in turn.
use Rattle.std.specs.Prelude.{◌≡◌, ◌≢◌, List, [], ◌∷◌, map, All, Bool, true, Result, Ok, Err}
use Rattle.std.specs.Bool.{Decides}
use Rattle.grammar_core.specs.declared.leaf.Variable.TheVariants.{Principal, Resource}
use Rattle.grammar_core.specs.declared.expr.Expr.{Expr}
use Rattle.type_checker.specs.policy_grammar.declared.policy.Scope.{Scope}
use Rattle.type_checker.specs.policy_grammar.PolicyExpression.{entity_part, action_part}
use Rattle.type_checker.specs.schema.declared.parts.Environment as given
use Rattle.type_checker.specs.schema.Schemas.{StatedSchema}
use Rattle.type_checker.specs.schema.Views.{environment_view}
use Rattle.type_checker.specs.typing.Types.{false_type}
use Rattle.type_checker.specs.typing.Environment.{Environment}
use Rattle.type_checker.specs.typing.declared.fault.TypeFault.{TypeFault}
use Rattle.type_checker.specs.typing.Faults.{Faults}
use Rattle.type_checker.specs.FromSchemas.{typing_environment_of}
use Rattle.type_checker.specs.typing.declared.fault.TypeFault.TheVariants.{NoMemory}
use Rattle.validator.specs.Passing.{HasType, HasBooleanType, FirstFaulty}

-- `scope_parts scope` is the list of the expressions of `scope`: principal, action, resource.
abbrev pub scope_parts : Scope → List Expr
scope_parts scope =
    entity_part Principal scope.principal ∷ action_part scope.action ∷ entity_part Resource scope.resource ∷ []

-- `typing_environments s ps` is the list of typing environments of the environments `ps` of the schema `s`.
abbrev pub typing_environments : StatedSchema → List given.Environment → List Environment
typing_environments s ps = map (λ p. typing_environment_of s (environment_view p)) ps

-- `IsJudged env x r` holds if `x` has a boolean type in `env`, and `r` is whether this type is False. It also holds if
-- `r` is `NoMemory`, or the error of typing `x` in `env`.
abbrev pub IsJudged : Environment → Expr → Result Bool TypeFault → Type 0
IsJudged env x (Ok b) = HasBooleanType x env × Decides b (HasType x false_type env)
IsJudged env x (Err f) = f ≢ NoMemory → Faults env [] x f

-- `AreJudged x before envs r` holds if `x` has a boolean type in each of `envs`, and `r` is whether `before` is true
-- and each of these types is False. It also holds if `r` is `NoMemory`, or the error of the first of `envs` that has
-- one.
abbrev pub AreJudged : Expr → Bool → List Environment → Result Bool TypeFault → Type 0
AreJudged x before envs (Ok b) =
    All (HasBooleanType x) envs × Decides b ((before ≡ true) × All (HasType x false_type) envs)
AreJudged x before envs (Err f) = f ≢ NoMemory → FirstFaulty x envs f
