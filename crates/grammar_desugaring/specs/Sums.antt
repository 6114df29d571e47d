-- Defines how the measure of a tree (the size of its core expression, and its error) is composed of the measures of its
-- parts.
use Rattle.std.specs.Prelude.{◌≡◌, ℕ, ◌+◌, ◌++◌, max, List, length, Option, Some, None}
use Rattle.std.specs.List.{fold}
use Rattle.grammar_syntax.specs.Lexing.{spelling_of}
use Rattle.grammar_core.specs.declared.leaf.Literal.{Literal}
use Rattle.grammar_core.specs.declared.operator.Unary.{Unary}
use Rattle.grammar_core.specs.declared.expr.Expr.{Expr}
use Rattle.grammar_core.specs.declared.expr.Expr.TheVariants as core
use Rattle.grammar_syntax.specs.declared.name_trees.PathTree.{PathTree}
use Rattle.grammar_syntax.specs.declared.tree.Access.{Access}
use Rattle.grammar_syntax.specs.declared.tree.Access.TheVariants as access
use Rattle.grammar_syntax.specs.declared.tree.Comparison.{Comparison}
use Rattle.grammar_syntax.specs.declared.tree.Comparison.TheVariants as is
use Rattle.grammar_syntax.specs.declared.tree.RecordEntry.{RecordEntry}
use Rattle.grammar_syntax.specs.declared.tree.Term.{Term}
use Rattle.grammar_syntax.specs.declared.tree.ExprTree.{ExprTree}
use Rattle.grammar_desugaring.specs.declared.fault.DesugarFault.{DesugarFault}
use Rattle.grammar_desugaring.specs.declared.measure.Measure.{Measure}
use Rattle.grammar_desugaring.specs.ReportedErrors.{earlier_of, least}
use Rattle.grammar_core.specs.Operators.{method_of, method_takes}
use Rattle.grammar_desugaring.specs.Faults.{call_faults, function_faults}
use Rattle.grammar_desugaring.specs.TreeMeasures.{measure, of, measured}

-- `nothing` is the measure of an empty list of expressions; `leaf fault` is that of a node without operands, with the
-- error `fault`, if there is one.
abbrev pub nothing : Measure
nothing = measure 0 0 None

abbrev pub leaf : Option DesugarFault → Measure
leaf fault = measure 1 1 fault

-- `node_measure j` is the measure of a node over one operand of the measure `j`.
abbrev pub node_measure : Measure → Measure
node_measure j = measure (j.height + 1) (j.node_count + 1) j.fault

-- `side_by_side i j` is the measure of two expressions with the measures `i` and `j` side by side: the greater height,
-- the sum of the numbers of nodes, and the earlier error. `paired i j` is the measure of a node over both expressions.
abbrev pub side_by_side : Measure → Measure → Measure
side_by_side i j = measure (max i.height j.height) (i.node_count + j.node_count) (earlier_of i.fault j.fault)

abbrev pub paired : Measure → Measure → Measure
paired i j = node_measure (side_by_side i j)

-- `called fault operands` is the measure of a call. `fault` is the call's own error, and `operands` is the measure of
-- the operands side by side, with the earliest of `fault` and the operands' errors. A call with an error of its own has
-- a placeholder, a leaf, as its core expression.
abbrev pub called : Option DesugarFault → Measure → Measure
called None operands = node_measure operands
called (Some fault) operands = leaf operands.fault

-- `with_fault fault j` is the measure `j` with the earlier of `fault` and the error of `j`.
abbrev pub with_fault : Option DesugarFault → Measure → Measure
with_fault fault j = record { height = j.height; node_count = j.node_count; fault = earlier_of fault j.fault }

-- ## Theorems

-- `LiteralIsLeaf`, `UnaryIsAbove` and `AndIsPaired`: the measure of a literal is `leaf` of its reported error. Those of
-- a unary operator and of `&&` are `node_measure` and `paired` of the measures of their operands. `faults` are the
-- errors of the tree; for `&&`, `faults` are those of the left operand, and `more` those of the right one.
abbrev pub LiteralIsLeaf : Type 0
LiteralIsLeaf = (value : Literal) (faults : List DesugarFault) → of (core.Literal value) faults ≡ leaf (least faults)

abbrev pub UnaryIsAbove : Type 0
UnaryIsAbove = (operator : Unary) (a : Expr) (faults : List DesugarFault) →
    of (core.Unary operator a) faults ≡ node_measure (of a faults)

abbrev pub AndIsPaired : Type 0
AndIsPaired = (a b : Expr) (faults more : List DesugarFault) →
    of (core.And a b) (faults ++ more) ≡ paired (of a faults) (of b more)

-- ## Lists of trees, where `text` is the source text

-- `measured_all text xs` is the measure of the trees `xs` side by side.
abbrev pub measured_all : List ℕ → List ExprTree → Measure
measured_all text xs = fold (λ j x. side_by_side j (measured text x)) nothing xs

-- `measured_chain text j xs` is the measure of a chain of operands: the first with the measure `j`, and then the trees
-- `xs`.
abbrev pub measured_chain : List ℕ → Measure → List ExprTree → Measure
measured_chain text = fold (λ j x. paired j (measured text x))

-- `measured_term text j term` is the measure of a sum whose last term is `term`, where `j` is the measure of the sum
-- before that term.
abbrev pub measured_term : List ℕ → Measure → Term ExprTree → Measure
measured_term text j term = paired j (measured text term.operand)

-- `measured_entry text j entry` is the measure of the entries of a record up to `entry`, side by side, where `j` is the
-- measure of the entries before it.
abbrev pub measured_entry : List ℕ → Measure → RecordEntry ExprTree → Measure
measured_entry text j entry = side_by_side j (measured text entry.value)

-- `measured_compared operator i j` is the measure of a comparison by `operator` of operands with the measures `i` and
-- `j`. `>`, `>=` and `!=` become negations, which have one more node.
abbrev pub measured_compared : Comparison → Measure → Measure → Measure
measured_compared is.Less i j = paired i j
measured_compared is.LessOrEqual i j = paired i j
measured_compared is.Greater i j = node_measure (paired i j)
measured_compared is.GreaterOrEqual i j = node_measure (paired i j)
measured_compared is.Equal i j = paired i j
measured_compared is.NotEqual i j = node_measure (paired i j)
measured_compared is.In i j = paired i j

-- `measured_call text path arguments` is the measure of a call of the function `path` with `arguments`.
abbrev pub measured_call : List ℕ → PathTree → List ExprTree → Measure
measured_call text path arguments =
    let fault = least (function_faults text path (length arguments)) in
    called fault (with_fault fault (measured_all text arguments))

-- `measured_access text j access` is the measure of the access `access` to an expression with the measure `j`.
abbrev pub measured_access : List ℕ → Measure → Access (List ExprTree) → Measure
measured_access text j (access.Field key) = node_measure j
measured_access text j (access.Method name arguments) =
    let fault = least (call_faults name.start (method_takes (method_of (spelling_of text name))) (length arguments)) in
    called fault (side_by_side j (with_fault fault (measured_all text arguments)))
