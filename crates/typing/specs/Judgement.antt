-- Defines the judgement on an expression: its type with the capabilities that it gains, or its error.
use Rattle.grammar_core.specs.declared.expr.Expr.{Expr}
use Rattle.typing.specs.Types.{StaticType}
use Rattle.typing.specs.Environment.{Environment}
use Rattle.typing.specs.declared.fault.TypeFault.{TypeFault}
use Rattle.typing.specs.Gained.{CapabilityList}
use Rattle.typing.specs.Typing.{Types}
use Rattle.typing.specs.Faults.{Faults}

-- A `Judgement` is a type with gained capabilities, or an error.
pub data Judgement : Type 0 where
  typed : StaticType → CapabilityList → Judgement
  faulty : TypeFault → Judgement

-- `Judges env K x r` holds if `r` is the judgement on `x` in the environment `env`, where the capabilities `K` are
-- known.
abbrev pub Judges : Environment → CapabilityList → Expr → Judgement → Type 0
Judges env K x (typed t L) = Types env K x t L
Judges env K x (faulty n) = Faults env K x n
