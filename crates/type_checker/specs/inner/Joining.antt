-- Defines the typing of a conjunction, grouped to the right, whose first parts are already typed.
use Rattle.std.specs.Prelude.{[], Option, Some, None}
use Rattle.grammar_core.specs.declared.expr.Expr.{Expr}
use Rattle.typing.specs.Types.{StaticType, IsBoolean}
use Rattle.typing.specs.Environment.{Environment}
use Rattle.typing.specs.declared.fault.TypeFault.{TypeFault}
use Rattle.typing.specs.declared.fault.TypeFault.TheVariants.{Unexpected}
use Rattle.typing.specs.Gained.{CapabilityList}
use Rattle.typing.specs.Rows.{and_type}
use Rattle.typing.specs.Typing.{Types}
use Rattle.typing.specs.Faults.{Faults}

-- `and_so_far s t` is the type of a conjunction whose last part has the type `t`. The conjunction of the parts before
-- it has the type `s`, which is `None` if no part precedes it.
abbrev pub and_so_far : Option StaticType → StaticType → StaticType
and_so_far None t = t
and_so_far (Some s) t = and_type s t

-- `IsSide s t` holds if a part of the type `t` may follow a conjunction of the type `s`. A side of `&&` has a boolean
-- type; the only part of a conjunction (`s` is `None`) may have any type.
pub data IsSide : Option StaticType → StaticType → Type 0 where
  alone : {t : StaticType} → IsSide None t
  behind : {s t : StaticType} → IsBoolean t → IsSide (Some s) t

-- `Leads env s K x whole` holds if, in the environment `env`, the judgement on the rest `x` of the conjunction `whole`
-- gives the judgement on `whole`. For `x` the capabilities `K` are known, for `whole` none. The conjunction of the
-- parts before `x` has the type `s`, which is `None` if there are no parts.
pub record Leads (env : Environment) (s : Option StaticType) (K : CapabilityList) (x whole : Expr) : Type 0 where
  pub types : (t : StaticType) (L : CapabilityList) → Types env K x t L → IsSide s t
      → (M : CapabilityList) × Types env [] whole (and_so_far s t) M
  pub no_side : (t : StaticType) (L : CapabilityList) → Types env K x t L → ¬ IsSide s t
      → Faults env [] whole Unexpected
  pub faults : (n : TypeFault) → Faults env K x n → Faults env [] whole n
