-- Defines the operands of an expression, and the expression to which a path of their indexes leads.
-- Source: docs/language.md, "Core expressions".
-- Rules of this product: operands are numbered from 0, in the order in which they are written. Of an `if` the test is
-- 0, `then` is 1, and `else` is 2.
use Rattle.std.specs.Prelude.{◌≡◌, ℕ, List, [], ◌∷◌, map, Option, Some, None, MatchOption, slice_get}
use Rattle.std.specs.Borrow.{Bor}
use Rattle.grammar_core.specs.declared.expr.Expr.{Expr}
use Rattle.grammar_core.specs.declared.expr.Expr.TheOpen.{Expr-F}
use Rattle.grammar_core.specs.declared.expr.Expr.TheViews.{out-Expr}

-- `operands_in f` are the operands of `f`, the outermost form of an expression.
abbrev pub operands_in : Expr-F Expr → List Expr
operands_in (Expr-F.Literal l) = []
operands_in (Expr-F.Variable x) = []
operands_in (Expr-F.If a b c) = a ∷ b ∷ c ∷ []
operands_in (Expr-F.And a b) = a ∷ b ∷ []
operands_in (Expr-F.Or a b) = a ∷ b ∷ []
operands_in (Expr-F.Unary op a) = a ∷ []
operands_in (Expr-F.Binary op a b) = a ∷ b ∷ []
operands_in (Expr-F.Field a k) = a ∷ []
operands_in (Expr-F.Has a k) = a ∷ []
operands_in (Expr-F.Set xs) = xs
operands_in (Expr-F.Record fs) = map (λ f. f.value) fs
operands_in (Expr-F.UnaryCall called a) = a ∷ []
operands_in (Expr-F.BinaryCall called a b) = a ∷ b ∷ []

-- `operands_of x` are the operands of the expression `x`.
abbrev pub operands_of : Expr → List Expr
operands_of x = operands_in (out-Expr x)

-- `and_then o f` is `f` of the expression in `o`, or `None` if `o` is `None`.
abbrev pub and_then : Option Expr → (Expr → Option Expr) → Option Expr
and_then None f = None
and_then (Some x) f = f x

-- `follow p x` is the expression to which the path `p` leads from `x`, if it leads to one.
abbrev pub follow : List ℕ → Expr → Option Expr
follow [] x = Some x
follow (i ∷ p) x = and_then (slice_get (operands_of x) i) (λ y. follow p y)

-- `IsAt xs i o` holds if `o` is the expression at index `i` of `xs`, or `None` past the end.
abbrev pub IsAt : List Expr → ℕ → Option (Bor Expr) → Type 0
IsAt xs i o = MatchOption o (slice_get xs i ≡ None) (λ y. slice_get xs i ≡ Some y.now)
