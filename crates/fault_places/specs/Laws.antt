-- Defines the theorems that the first error of an expression blames one place in one environment, whatever its
-- derivation, and that the first undeclared name has one place.
-- Source: FirstBlamed.antt.
use Rattle.std.specs.Prelude.{◌≡◌, ℕ, List}
use Rattle.grammar_core.specs.declared.expr.Expr.{Expr}
use Rattle.typing.specs.Environment.{Environment}
use Rattle.typing.specs.declared.fault.TypeFault.{TypeFault}
use Rattle.type_checker.specs.schema.Schemas.{StatedSchema}
use Rattle.validator.specs.Names.{Name}
use Rattle.validator.specs.Passing.{FirstFaulty}
use Rattle.fault_places.specs.FirstBlamed.{environment_blamed, blamed_there}
use Rattle.fault_places.specs.NamesAt.{FirstUnknownAt}

-- `OneFirstBlame`: any two derivations of the first error of an expression blame the same place in the same
-- environment.
abbrev pub OneFirstBlame : Type 0
OneFirstBlame = (x : Expr) (envs : List Environment) (m n : TypeFault) (g : FirstFaulty x envs m)
    (h : FirstFaulty x envs n) → (environment_blamed g ≡ environment_blamed h) × (blamed_there g ≡ blamed_there h)

-- `OneUnknownName`: the first name of an expression that a schema does not declare is one name, and one path leads to
-- it.
abbrev pub OneUnknownName : Type 0
OneUnknownName = (s : StatedSchema) (x : Expr) (p q : List ℕ) (m n : Name) (f g : TypeFault) → FirstUnknownAt s x p m f
    → FirstUnknownAt s x q n g → (p ≡ q) × (m ≡ n)
