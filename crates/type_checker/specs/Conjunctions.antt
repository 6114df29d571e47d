-- Defines the conjunction of several expressions, grouped to the right.
-- Source: Cedar reference guide 4.0, "Basic policy construction"; cedar-spec, cedar-lean/Cedar/Spec/Policy.lean
-- (`Policy.toExpr`).
use Rattle.std.specs.Prelude.{List, [], ◌∷◌}
use Rattle.grammar_core.specs.declared.expr.Expr.{Expr}
use Rattle.grammar_core.specs.declared.expr.Expr.TheVariants as form

-- `joined ps x` is the conjunction of `ps` and then `x`, grouped to the right: `p && (q && x)` for the parts `p` and
-- `q`, and `x` if `ps` is empty.
abbrev pub joined : List Expr → Expr → Expr
joined [] x = x
joined (p ∷ ps) x = form.And p (joined ps x)
