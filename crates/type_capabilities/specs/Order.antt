-- Defines an order of expressions: by kind, then by content other than operands, then by the operands from the left.
-- Sets, records and patterns are ordered by the number of their parts first.
-- Rules of this product: this order, which is only for look-ups.
use Rattle.std.specs.Prelude.{ℕ, List, [], ◌∷◌, map, length}
use Rattle.std.specs.declared.cmp.Ordering.{Ordering}
use Rattle.std.specs.declared.cmp.Ordering.TheVariants.{Equal}
use Rattle.std.specs.Ordering.{ordering_then, nat_cmp, int_cmp, bool_cmp}
use Rattle.std.specs.Cmp.Lexicographic.{slice_cmp}
use Rattle.values.specs.Uids.{text_cmp, uid_cmp}
use Rattle.grammar_core.specs.declared.leaf.Literal.{Literal}
use Rattle.grammar_core.specs.declared.leaf.Literal.TheVariants as literal
use Rattle.grammar_core.specs.declared.operator.Unary.{Unary}
use Rattle.grammar_core.specs.declared.operator.Unary.TheVariants as unary
use Rattle.grammar_core.specs.declared.expr.Named.{Named}
use Rattle.grammar_core.specs.declared.expr.Expr.{Expr}
use Rattle.grammar_core.specs.declared.expr.Expr.TheViews.{out-Expr}
use Rattle.grammar_core.specs.declared.expr.Expr.TheOpen.{Expr-F}
use Rattle.grammar_core.specs.declared.expr.Expr.TheFolds.{fold-Expr}
use Rattle.grammar_core.specs.Operators.{variable_rank, binary_rank, unary_call_rank, binary_call_rank}

-- `literal_rank l` is the rank of the kind of the literal `l`.
abbrev pub literal_rank : Literal → ℕ
literal_rank (literal.Boolean b) = 0
literal_rank (literal.Long z) = 1
literal_rank (literal.Text s) = 2
literal_rank (literal.Entity u) = 3

-- `literal_cmp l m` compares the literals `l` and `m` by kind, and then by content.
abbrev pub literal_cmp : Literal → Literal → Ordering
literal_cmp (literal.Boolean a) (literal.Boolean b) = bool_cmp a b
literal_cmp (literal.Long y) (literal.Long z) = int_cmp y z
literal_cmp (literal.Text s) (literal.Text t) = text_cmp s t
literal_cmp (literal.Entity u) (literal.Entity v) = uid_cmp u v
literal_cmp l m = nat_cmp (literal_rank l) (literal_rank m)

-- `unary_rank o` is the rank of the operator `o`.
abbrev pub unary_rank : Unary → ℕ
unary_rank unary.Not = 0
unary_rank unary.Negate = 1
unary_rank (unary.Like p) = 2
unary_rank (unary.Is n) = 3

-- `pattern_cmp p q` compares the patterns `p` and `q`, each the list of its literal texts: by the number of these, then
-- text by text.
abbrev pub pattern_cmp : List (List ℕ) → List (List ℕ) → Ordering
pattern_cmp p q = ordering_then (nat_cmp (length p) (length q)) (slice_cmp text_cmp p q)

-- `unary_cmp o p` compares the unary operators `o` and `p`: by rank, then by the pattern or the type.
abbrev pub unary_cmp : Unary → Unary → Ordering
unary_cmp (unary.Like p) (unary.Like q) = pattern_cmp p q
unary_cmp (unary.Is m) (unary.Is n) = text_cmp m n
unary_cmp o p = nat_cmp (unary_rank o) (unary_rank p)

-- `kind l` is the rank of the kind of the node `l`.
abbrev pub kind : {X : Type 0} → Expr-F X → ℕ
kind (Expr-F.Literal l) = 0
kind (Expr-F.Variable x) = 1
kind (Expr-F.If a b c) = 2
kind (Expr-F.And a b) = 3
kind (Expr-F.Or a b) = 4
kind (Expr-F.Unary o a) = 5
kind (Expr-F.Binary o a b) = 6
kind (Expr-F.Field a k) = 7
kind (Expr-F.Has a k) = 8
kind (Expr-F.Set xs) = 9
kind (Expr-F.Record fs) = 10
kind (Expr-F.UnaryCall c a) = 11
kind (Expr-F.BinaryCall c a b) = 12

-- `kind_of x` is the rank of the kind of `x`.
abbrev pub kind_of : Expr → ℕ
kind_of = fold-Expr ℕ kind

-- `names fs` are the names of the fields `fs`.
abbrev pub names : {X : Type 0} → List (Named X) → List (List ℕ)
names fs = map (λ f. f.name) fs

-- `names_cmp fs gs` compares the names of the fields `fs` and `gs`, name by name.
abbrev pub names_cmp : {X Y : Type 0} → List (Named X) → List (Named Y) → Ordering
names_cmp fs gs = slice_cmp text_cmp (names fs) (names gs)

-- `each_cmp fs ys` compares a list of expressions with the list `ys`, index by index, up to the end of the shorter
-- list. The list `fs` has, in place of each expression of the first list, its comparison with other expressions.
abbrev pub each_cmp : List (Expr → Ordering) → List Expr → Ordering
each_cmp [] ys = Equal
each_cmp (f ∷ fs) [] = Equal
each_cmp (f ∷ fs) (y ∷ ys) = ordering_then (f y) (each_cmp fs ys)

-- `layers_cmp l m` compares the nodes `l` and `m`. Each operand of `l` is replaced by its comparison with other
-- expressions.
abbrev pub layers_cmp : Expr-F (Expr → Ordering) → Expr-F Expr → Ordering
layers_cmp (Expr-F.Literal l) (Expr-F.Literal m) = literal_cmp l m
layers_cmp (Expr-F.Variable x) (Expr-F.Variable y) = nat_cmp (variable_rank x) (variable_rank y)
layers_cmp (Expr-F.If a b c) (Expr-F.If d e f) = ordering_then (ordering_then (a d) (b e)) (c f)
layers_cmp (Expr-F.And a b) (Expr-F.And c d) = ordering_then (a c) (b d)
layers_cmp (Expr-F.Or a b) (Expr-F.Or c d) = ordering_then (a c) (b d)
layers_cmp (Expr-F.Unary o a) (Expr-F.Unary p b) = ordering_then (unary_cmp o p) (a b)
layers_cmp (Expr-F.Binary o a b) (Expr-F.Binary p c d) =
    ordering_then (ordering_then (nat_cmp (binary_rank o) (binary_rank p)) (a c)) (b d)
layers_cmp (Expr-F.Field a k) (Expr-F.Field b l) = ordering_then (text_cmp k l) (a b)
layers_cmp (Expr-F.Has a k) (Expr-F.Has b l) = ordering_then (text_cmp k l) (a b)
layers_cmp (Expr-F.Set fs) (Expr-F.Set ys) = ordering_then (nat_cmp (length fs) (length ys)) (each_cmp fs ys)
layers_cmp (Expr-F.Record fs) (Expr-F.Record gs) =
    ordering_then (ordering_then (nat_cmp (length fs) (length gs)) (names_cmp fs gs))
    (each_cmp (map (λ f. f.value) fs) (map (λ g. g.value) gs))
layers_cmp (Expr-F.UnaryCall c a) (Expr-F.UnaryCall d b) =
    ordering_then (nat_cmp (unary_call_rank c) (unary_call_rank d)) (a b)
layers_cmp (Expr-F.BinaryCall e a b) (Expr-F.BinaryCall f c d) =
    ordering_then (ordering_then (nat_cmp (binary_call_rank e) (binary_call_rank f)) (a c)) (b d)
layers_cmp l m = nat_cmp (kind l) (kind m)

-- `expr_cmp x y` compares the expressions `x` and `y`.
abbrev pub expr_cmp : Expr → Expr → Ordering
expr_cmp = fold-Expr (Expr → Ordering) (λ l y. layers_cmp l (out-Expr y))
