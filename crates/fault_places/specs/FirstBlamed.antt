-- Defines the environment of the first typing error, and what the error blames in it.
-- Source: the rules of `validator` (Passing.antt, `FirstFaulty`).
-- Rules of this product: environments are numbered from 0, in the order in which `check` walks them.
use Rattle.std.specs.Prelude.{ℕ, suc, List}
use Rattle.grammar_core.specs.declared.expr.Expr.{Expr}
use Rattle.typing.specs.Environment.{Environment}
use Rattle.typing.specs.declared.fault.TypeFault.{TypeFault}
use Rattle.validator.specs.Passing.{FirstFaulty, faulty_here, faulty_later}
use Rattle.typing.specs.BlamedExpressions.{Blame, blamed}

-- `environment_blamed f` is the index of the environment that the derivation `f` shows to be the first with an error.
abbrev pub environment_blamed : {x : Expr} {envs : List Environment} {n : TypeFault} → FirstFaulty x envs n → ℕ
environment_blamed (faulty_here g) = 0
environment_blamed (faulty_later h g) = suc (environment_blamed g)

-- `blamed_there f` is what the error derived by `f` blames in the environment at the index `environment_blamed f`.
abbrev pub blamed_there : {x : Expr} {envs : List Environment} {n : TypeFault} → FirstFaulty x envs n → Blame
blamed_there (faulty_here g) = blamed g
blamed_there (faulty_later h g) = blamed_there g
