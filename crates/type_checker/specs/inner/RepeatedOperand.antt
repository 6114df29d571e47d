-- Defines when the second `a` of `a is T && a op b`, as in `a is T && a in b`, need not be typed again.
use Rattle.std.specs.Prelude.{◌≡◌, ℕ, List, MatchResult, Result}
use Rattle.grammar_core.specs.declared.operator.Unary.TheVariants.{Is}
use Rattle.grammar_core.specs.declared.operator.Binary.{Binary}
use Rattle.grammar_core.specs.declared.expr.Expr.{Expr}
use Rattle.grammar_core.specs.declared.expr.Expr.TheVariants as form
use Rattle.typing.specs.Environment.{Environment}
use Rattle.typing.specs.Literals.{UndecidedByLiterals}
use Rattle.typing.specs.Rows.{MayBeTrue}
use Rattle.type_checker.specs.Views.{static_view}
use Rattle.typing.specs.declared.fault.TypeFault.{TypeFault}
use Rattle.type_checker.specs.declared.typed.Typed.{Typed}

-- `MayBeTrueResult r` holds if the result `r` of typing is True or Bool, so that the typed expression may be true.
abbrev pub MayBeTrueResult : Result Typed TypeFault → Type 0
MayBeTrueResult r = MatchResult r (λ t. MayBeTrue (static_view t.kind)) (λ f. ⊥)

-- `RepeatsTestedOperand env left test op a b n` holds if `left` is `a is n`, the result `test` of typing `left` is True
-- or Bool, and literals do not decide the result of `a op b` in the environment `env`.
abbrev pub RepeatsTestedOperand : Environment → Expr → Result Typed TypeFault → Binary → Expr → Expr → List ℕ
    → Type 0
RepeatsTestedOperand env left test op a b n =
    (left ≡ form.Unary (Is n) a) × MayBeTrueResult test × UndecidedByLiterals env op a b
