-- Defines when a policy passes validation, when it is impossible, and with which error it is rejected.
-- Source: Cedar reference guide 4.0, "Policy validation" (strict mode); cedar-spec,
-- cedar-lean/Cedar/Validation/Validator.lean (`typecheckPolicyWithEnvironments`).
-- Rules of this product: names are checked before types, and the error is that of the first environment that has one.
-- If its names are all declared, a policy of the type False in each environment passes here, as impossible; cedar-spec
-- rejects it. If a schema has no environment, each policy whose names are all declared passes, as impossible.
use Rattle.std.specs.Prelude.{◌↔◌, List, [], ◌∷◌, map, All, Bool, IsTrue}
use Rattle.grammar_core.specs.declared.expr.Expr.{Expr}
use Rattle.type_checker.specs.policy_grammar.declared.policy.Policy.{Policy}
use Rattle.type_checker.specs.policy_grammar.PolicyExpression.{expression_of}
use Rattle.type_checker.specs.schema.Schemas.{StatedSchema}
use Rattle.type_checker.specs.typing.Types.{StaticType, false_type, IsBoolean}
use Rattle.type_checker.specs.typing.Environment.{Environment}
use Rattle.type_checker.specs.typing.declared.fault.TypeFault.{TypeFault}
use Rattle.type_checker.specs.typing.Gained.{CapabilityList}
use Rattle.type_checker.specs.typing.Typing.{Types}
use Rattle.type_checker.specs.typing.Faults.{Faults}
use Rattle.type_checker.specs.FromSchemas.{typing_environment_of}
use Rattle.validator.specs.Names.{names_of}
use Rattle.validator.specs.Unknown.{IsKnown, FirstUnknown}

-- `environments_of s` is the list of typing environments of the schema `s`, in the order of `s.environments`. In a
-- parsed schema they ascend by action, principal type and resource type.
abbrev pub environments_of : StatedSchema → List Environment
environments_of s = map (typing_environment_of s) s.environments

-- `HasType x t env` holds if `x` has the type `t` in `env`, without known capabilities.
abbrev pub HasType : Expr → StaticType → Environment → Type 0
HasType x t env = (L : CapabilityList) × Types env [] x t L

-- `HasBooleanType x env` holds if `x` has a boolean type (True, False or Bool) in `env`.
abbrev pub HasBooleanType : Expr → Environment → Type 0
HasBooleanType x env = (t : StaticType) × IsBoolean t × HasType x t env

-- `FirstFaulty x envs n` holds if `n` is an error of typing `x` in one of the environments `envs`, and `x` has a
-- boolean type in each environment before that one.
pub data FirstFaulty (x : Expr) : List Environment → TypeFault → Type 0 where
  faulty_here : {env : Environment} {envs : List Environment} {n : TypeFault} → Faults env [] x n
      → FirstFaulty x (env ∷ envs) n
  faulty_later : {env : Environment} {envs : List Environment} {n : TypeFault} → HasBooleanType x env
      → FirstFaulty x envs n → FirstFaulty x (env ∷ envs) n

-- `Passes s policy` holds if the schema `s` declares each name in `policy`, and the expression of `policy` has a
-- boolean type in each environment of `s`.
pub record Passes (s : StatedSchema) (policy : Policy) : Type 0 where
  pub known : All (IsKnown s) (names_of policy)
  pub typed : All (HasBooleanType (expression_of policy)) (environments_of s)

-- `IsImpossible s policy` holds if the type of `policy`'s expression is False in each environment of the schema `s`.
abbrev pub IsImpossible : StatedSchema → Policy → Type 0
IsImpossible s policy = All (HasType (expression_of policy) false_type) (environments_of s)

-- `IsVerdict s policy told` holds if `policy` passes under the schema `s`, and `told` is true if and only if `policy`
-- is impossible.
pub record IsVerdict (s : StatedSchema) (policy : Policy) (told : Bool) : Type 0 where
  pub passes : Passes s policy
  pub impossible : IsTrue told ↔ IsImpossible s policy

-- `IsCheckRefused s policy f` holds if `f` is the error of the first name in `policy`, in the order of the text, that
-- the schema `s` does not declare. If each name is declared, `f` is an error of typing in the first environment that
-- has one.
pub data IsCheckRefused (s : StatedSchema) (policy : Policy) : TypeFault → Type 0 where
  for_name : {f : TypeFault} → FirstUnknown s (names_of policy) f → IsCheckRefused s policy f
  for_type : {f : TypeFault} → All (IsKnown s) (names_of policy)
      → FirstFaulty (expression_of policy) (environments_of s) f → IsCheckRefused s policy f
