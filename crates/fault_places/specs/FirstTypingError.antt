-- Defines the report on the first typing error: the error, its environment, and what the error blames there.
-- Source: docs/codes.md; the rules of `typing` (BlamedExpressions.antt).
-- Rules of this product: the error is that of `check`; the environment, given by its index, is the first with an error.
use Rattle.std.specs.Prelude.{◌≡◌, List}
use Rattle.grammar_core.specs.declared.expr.Expr.{Expr}
use Rattle.type_checker.specs.schema.Schemas.{StatedSchema}
use Rattle.typing.specs.Environment.{Environment}
use Rattle.typing.specs.declared.fault.TypeFault.{TypeFault}
use Rattle.validator.specs.Passing.{environments_of, FirstFaulty}
use Rattle.fault_places.specs.FirstBlamed.{environment_blamed, blamed_there}
use Rattle.fault_places.specs.Views.{place_view}
use Rattle.fault_places.specs.declared.blaming.TypeBlame.{TypeBlame}

-- `IsFirstBlame envs x b` holds if `x` has an error in one of the environments `envs`, and `b` has the first error,
-- with the environment and the place that each derivation of it gives.
pub record IsFirstBlame (envs : List Environment) (x : Expr) (b : TypeBlame) : Type 0 where
  pub first : FirstFaulty x envs b.fault
  pub environment : (n : TypeFault) (h : FirstFaulty x envs n) → environment_blamed h ≡ b.environment
  pub place : (n : TypeFault) (h : FirstFaulty x envs n) → blamed_there h ≡ place_view b.place

-- `IsTypeBlame s x b` holds if `b` reports the first typing error of `x` in the environments of the schema `s`.
abbrev pub IsTypeBlame : StatedSchema → Expr → TypeBlame → Type 0
IsTypeBlame s x b = IsFirstBlame (environments_of s) x b
