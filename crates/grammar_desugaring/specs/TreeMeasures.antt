-- Defines the measure of a tree over the text that its tokens are in (`text` in each definition): the size of the
-- tree's core expression, and the tree's reported error. The code computes the measure without the core expression.
use Rattle.std.specs.Prelude.{ℕ, List, map, Option}
use Rattle.grammar_core.specs.declared.expr.Expr.{Expr}
use Rattle.grammar_core.specs.Size.{height, node_count, capped, greatest, total}
use Rattle.grammar_syntax.specs.declared.tree.ExprTree.{ExprTree}
use Rattle.grammar_desugaring.specs.declared.fault.DesugarFault.{DesugarFault}
use Rattle.grammar_desugaring.specs.declared.measure.Measure.{Measure}
use Rattle.grammar_desugaring.specs.ReportedErrors.{least}
use Rattle.grammar_desugaring.specs.Core.{core_of, negated}
use Rattle.grammar_desugaring.specs.Faults.{faults_of, negated_faults}

-- `measure h f fault` is the measure with the height `h` and `f` nodes, each capped at the greatest `u32`, and the
-- error `fault`.
abbrev pub measure : ℕ → ℕ → Option DesugarFault → Measure
measure h f fault = record { height = capped h; node_count = capped f; fault = fault }

-- `of e faults` is the measure of a tree with the core expression `e` and the errors `faults`.
abbrev pub of : Expr → List DesugarFault → Measure
of e faults = measure (height e) (node_count e) (least faults)

-- `of_row es faults` is the measure of trees side by side, with the core expressions `es` and the errors `faults`.
abbrev pub of_row : List Expr → List DesugarFault → Measure
of_row es faults = measure (greatest (map height es)) (total (map node_count es)) (least faults)

-- `measured text x` is the measure of the tree `x`.
abbrev pub measured : List ℕ → ExprTree → Measure
measured text x = of (core_of text x) (faults_of text x)

-- `measured_negated text x` is the measure of the tree `x` with a minus before it.
abbrev pub measured_negated : List ℕ → ExprTree → Measure
measured_negated text x = of (negated text x) (negated_faults text x)
