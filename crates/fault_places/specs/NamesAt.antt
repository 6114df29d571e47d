-- Defines the place in an expression of its first name that the schema does not declare.
-- Source: Names.antt and Unknown.antt of `validator`.
-- Rules of this product: names are in the order of the text, so the names of the operands precede the name that a form
-- itself has.
use Rattle.std.specs.Prelude.{◌≡◌, ℕ, List, [], ◌∷◌, ◌++◌, All, length}
use Rattle.grammar_core.specs.declared.expr.Expr.{Expr}
use Rattle.grammar_core.specs.declared.expr.Expr.TheOpen.{Expr-F}
use Rattle.grammar_core.specs.declared.expr.Expr.TheViews.{out-Expr}
use Rattle.type_checker.specs.schema.Schemas.{StatedSchema}
use Rattle.typing.specs.declared.fault.TypeFault.{TypeFault}
use Rattle.validator.specs.Names.{Name, tested_type, entity, names_in, literal_names, operator_names}
use Rattle.validator.specs.Unknown.{IsUnknown, IsKnown, FirstUnknown}
use Rattle.typing.specs.Places.{operands_of}
use Rattle.fault_places.specs.declared.unknown_names.UnknownName.{UnknownName}
use Rattle.fault_places.specs.declared.unknown_names.UnknownName.TheVariants.{TestedType, Entity}
use Rattle.fault_places.specs.declared.unknown_names.NameBlame.{NameBlame}

-- `names_at y` is the list of the one name that the form `y` itself has, without the names of its operands, or empty if
-- `y` itself has none.
abbrev pub names_at : Expr-F Expr → List Name
names_at (Expr-F.Literal l) = literal_names l
names_at (Expr-F.Unary op a) = operator_names op
names_at y = []

-- `FirstUnknownAt s x p n f` holds if `n` is the first name in the expression `x` that the schema `s` does not declare,
-- `f` is the error for it, and the path `p` leads from `x` to the form that has it.
pub data FirstUnknownAt (s : StatedSchema) : Expr → List ℕ → Name → TypeFault → Type 0 where
  -- all names of the operands are declared, and the form's own is not
  unknown_itself : {x : Expr} {n : Name} {f : TypeFault} → All (λ y. All (IsKnown s) (names_in y)) (operands_of x)
      → names_at (out-Expr x) ≡ n ∷ [] → IsUnknown s n f → FirstUnknownAt s x [] n f
  -- all names of the operands before `y` are declared, and `y` has the first undeclared one
  unknown_in : {x y : Expr} {p : List ℕ} {n : Name} {f : TypeFault} (before rest : List Expr)
      → operands_of x ≡ before ++ y ∷ rest → All (λ z. All (IsKnown s) (names_in z)) before → FirstUnknownAt s y p n f
      → FirstUnknownAt s x (length before ∷ p) n f

-- `name_view n` is the name that the code's value `n` represents.
abbrev pub name_view : UnknownName → Name
name_view (TestedType n) = tested_type n.now
name_view (Entity u) = entity u.now

-- `IsNameBlame s x b` holds if `b` has the first name in `x` that the schema `s` does not declare, with its error and
-- the path to it.
pub record IsNameBlame (s : StatedSchema) (x : Expr) (b : NameBlame) : Type 0 where
  pub first : FirstUnknown s (names_in x) b.fault
  pub at : FirstUnknownAt s x b.path.items (name_view b.name) b.fault
