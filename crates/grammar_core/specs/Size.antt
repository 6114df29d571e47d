-- Defines the height of a core expression, its number of nodes, and the limits on both.
use Rattle.std.specs.Prelude.{ℕ, ◌+◌, ◌≤◌, max, min, List, [], ◌∷◌, map}
use Rattle.grammar_core.specs.declared.expr.Expr.{Expr}
use Rattle.grammar_core.specs.declared.expr.Expr.TheOpen.{Expr-F}
use Rattle.grammar_core.specs.declared.expr.Expr.TheFolds.{fold-Expr}
use Rattle.grammar_core.specs.declared.expr.Named.{Named}

-- `greatest ns` is the greatest of `ns`, or 0 if `ns` is empty.
abbrev pub greatest : List ℕ → ℕ
greatest [] = 0
greatest (n ∷ ns) = max n (greatest ns)

-- `total ns` is the sum of `ns`.
abbrev pub total : List ℕ → ℕ
total [] = 0
total (n ∷ ns) = n + total ns

-- `values_of fields` are the values of the fields `fields` of a record.
abbrev pub values_of : {X : Type 0} → List (Named X) → List X
values_of fields = map (λ f. f.value) fields

-- `height_step e` is the height of a node, where `e` is the node with each operand replaced by its height.
abbrev pub height_step : Expr-F ℕ → ℕ
height_step (Expr-F.Literal literal) = 1
height_step (Expr-F.Variable variable) = 1
height_step (Expr-F.If test consequent alternative) = max test (max consequent alternative) + 1
height_step (Expr-F.And left right) = max left right + 1
height_step (Expr-F.Or left right) = max left right + 1
height_step (Expr-F.Unary operator operand) = operand + 1
height_step (Expr-F.Binary operator left right) = max left right + 1
height_step (Expr-F.Field owner name) = owner + 1
height_step (Expr-F.Has owner name) = owner + 1
height_step (Expr-F.Set members) = greatest members + 1
height_step (Expr-F.Record fields) = greatest (values_of fields) + 1
height_step (Expr-F.UnaryCall called operand) = operand + 1
height_step (Expr-F.BinaryCall called left right) = max left right + 1

-- `height e` is the height of `e`; a leaf has height 1.
abbrev pub height : Expr → ℕ
height = fold-Expr ℕ height_step

-- `node_count_step e` is the number of nodes of an expression, its root included, where `e` is the root with each
-- operand replaced by its number of nodes.
abbrev pub node_count_step : Expr-F ℕ → ℕ
node_count_step (Expr-F.Literal literal) = 1
node_count_step (Expr-F.Variable variable) = 1
node_count_step (Expr-F.If test consequent alternative) = test + consequent + alternative + 1
node_count_step (Expr-F.And left right) = left + right + 1
node_count_step (Expr-F.Or left right) = left + right + 1
node_count_step (Expr-F.Unary operator operand) = operand + 1
node_count_step (Expr-F.Binary operator left right) = left + right + 1
node_count_step (Expr-F.Field owner name) = owner + 1
node_count_step (Expr-F.Has owner name) = owner + 1
node_count_step (Expr-F.Set members) = total members + 1
node_count_step (Expr-F.Record fields) = total (values_of fields) + 1
node_count_step (Expr-F.UnaryCall called operand) = operand + 1
node_count_step (Expr-F.BinaryCall called left right) = left + right + 1

-- `node_count e` is the number of nodes of `e`, its root included.
abbrev pub node_count : Expr → ℕ
node_count = fold-Expr ℕ node_count_step

-- `capped n` is the smaller of `n` and 2^32 - 1, the greatest `u32`: the parser counts heights and nodes in this type.
abbrev pub capped : ℕ → ℕ
capped n = min n 4294967295

-- `most_height` and `most_nodes` are the greatest height and the greatest number of nodes of a policy's expression, a
-- rule of this product. For example, `1 == 2` has height 2 and three nodes, and each `!` around it adds one to both.
abbrev pub most_height : ℕ
most_height = 1_000

abbrev pub most_nodes : ℕ
most_nodes = 1_000_000

-- `IsSmall expr` holds if `expr` is within both limits.
abbrev pub IsSmall : Expr → Type 0
IsSmall expr = (height expr ≤ most_height) × (node_count expr ≤ most_nodes)
