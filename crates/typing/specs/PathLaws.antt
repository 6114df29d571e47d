-- Defines the theorems that all derivations of an expression's error blame the same place, and that this place is a
-- part of the expression.
-- Source: BlamedExpressions.antt and Places.antt.
use Rattle.std.specs.Prelude.{◌≡◌, ◌⊎◌, ℕ, List, [], ◌∷◌, ◌++◌, Some, slice_get}
use Rattle.grammar_core.specs.declared.expr.Expr.{Expr}
use Rattle.typing.specs.Environment.{Environment}
use Rattle.typing.specs.declared.fault.TypeFault.{TypeFault}
use Rattle.typing.specs.Gained.{CapabilityList}
use Rattle.typing.specs.Faults.{Faults}
use Rattle.typing.specs.BlamedExpressions.{Blame, blamed}
use Rattle.typing.specs.Places.{operands_of, follow}

-- `OneBlame`: no two derivations of an expression's error blame different places.
abbrev pub OneBlame : Type 0
OneBlame = (env : Environment) (K : CapabilityList) (x : Expr) (m n : TypeFault) (g : Faults env K x m)
    (h : Faults env K x n) → blamed g ≡ blamed h

-- `LeadsToOperand x b` holds if the path of `b` leads from `x` to an operand of the form of `b`.
pub record LeadsToOperand (x : Expr) (b : Blame) : Type 0 where
  pub above : List ℕ
  pub index : ℕ
  pub operand : Expr
  pub is : b.path ≡ above ++ index ∷ []
  pub leads : follow above x ≡ Some b.form
  pub stands : slice_get (operands_of b.form) index ≡ Some operand

-- `IsPlaced x b` holds if the path of `b` leads from `x` to the form of `b`, or to an operand of that form.
abbrev pub IsPlaced : Expr → Blame → Type 0
IsPlaced x b = (follow b.path x ≡ Some b.form) ⊎ LeadsToOperand x b

-- `BlamesArePlaced`: what a derivation of an expression's error blames is a part of that expression.
abbrev pub BlamesArePlaced : Type 0
BlamesArePlaced = (env : Environment) (K : CapabilityList) (x : Expr) (n : TypeFault) (g : Faults env K x n)
    → IsPlaced x (blamed g)
