-- Defines the report on one environment: an error of typing a policy's expression there, and what the error blames.
use Rattle.std.specs.Prelude.{◌≡◌, ℕ, [], Option, MatchOption}
use Rattle.grammar_core.specs.declared.expr.Expr.{Expr}
use Rattle.typing.specs.declared.fault.TypeFault.{TypeFault}
use Rattle.typing.specs.Types.{StaticType}
use Rattle.typing.specs.Environment.{Environment}
use Rattle.typing.specs.Faults.{Faults}
use Rattle.validator.specs.Passing.{HasType}
use Rattle.typing.specs.BlamedExpressions.{blamed}
use Rattle.fault_places.specs.Views.{place_view}
use Rattle.fault_places.specs.declared.blaming.TypeBlame.{TypeBlame}

-- `IsBlamedAt env i x b` holds if `b` reports the index `i` of `env`, an error of typing `x` in `env`, and the place
-- that each derivation of such an error blames.
abbrev pub IsBlamedAt : Environment → ℕ → Expr → TypeBlame → Type 0
IsBlamedAt env i x b = (b.environment ≡ i) × Faults env [] x b.fault
    × ((n : TypeFault) (h : Faults env [] x n) → blamed h ≡ place_view b.place)

-- `IsBlamedIn env i x o` holds if `o` is a report as `IsBlamedAt` says, or `None` and `x` has a type in `env`.
abbrev pub IsBlamedIn : Environment → ℕ → Expr → Option TypeBlame → Type 0
IsBlamedIn env i x o = MatchOption o ((t : StaticType) × HasType x t env) (IsBlamedAt env i x)
