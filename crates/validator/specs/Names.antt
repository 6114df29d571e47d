-- Defines the names in a policy: the entity types after `is` and the entity literals, in the order of its text.
-- Source: Cedar reference guide 4.0, "Policy validation" and "Grammar specification for Cedar policy syntax".
-- Desugaring keeps operands in the order of the text. It may repeat an operand: `e is T in f` becomes
-- `e is T && e in f`, where the names of `e` occur again after `T`. Each repeated name occurs earlier too, so the first
-- undeclared name is the same here and in the text.
use Rattle.std.specs.Prelude.{ℕ, List, [], ◌∷◌, ◌++◌}
use Rattle.values.specs.declared.entity_uid.EntityUid.{EntityUid}
use Rattle.grammar_core.specs.Size.{values_of}
use Rattle.grammar_core.specs.declared.leaf.Literal.{Literal}
use Rattle.grammar_core.specs.declared.leaf.Literal.TheVariants as literal
use Rattle.grammar_core.specs.declared.operator.Unary.{Unary}
use Rattle.grammar_core.specs.declared.operator.Unary.TheVariants.{Is}
use Rattle.grammar_core.specs.declared.expr.Expr.{Expr}
use Rattle.grammar_core.specs.declared.expr.Expr.TheOpen.{Expr-F}
use Rattle.grammar_core.specs.declared.expr.Expr.TheFolds.{fold-Expr}
use Rattle.type_checker.specs.policy_grammar.declared.policy.Policy.{Policy}
use Rattle.type_checker.specs.policy_grammar.PolicyExpression.{expression_of}

-- A `Name` is a name in a policy that a schema has to declare.
pub data Name : Type 0 where
  -- `tested_type n`: the entity type `n` of an `is`
  tested_type : List ℕ → Name
  -- `entity u`: the entity literal `u`
  entity : EntityUid → Name

-- `literal_names l` is the list of names in the literal `l`.
abbrev pub literal_names : Literal → List Name
literal_names (literal.Entity u) = entity u ∷ []
literal_names l = []

-- `operator_names op` is the list of names in the unary operator `op`.
abbrev pub operator_names : Unary → List Name
operator_names (Is n) = tested_type n ∷ []
operator_names op = []

-- `joined xs` is the concatenation of the lists `xs`.
abbrev pub joined : List (List Name) → List Name
joined [] = []
joined (names ∷ rest) = names ++ joined rest

-- `names_step form` is the list of names in an expression of the form `form`. The form has the names of each operand in
-- place of the operand.
abbrev pub names_step : Expr-F (List Name) → List Name
names_step (Expr-F.Literal l) = literal_names l
names_step (Expr-F.Variable x) = []
names_step (Expr-F.If a b c) = a ++ (b ++ c)
names_step (Expr-F.And a b) = a ++ b
names_step (Expr-F.Or a b) = a ++ b
names_step (Expr-F.Unary op a) = a ++ operator_names op
names_step (Expr-F.Binary op a b) = a ++ b
names_step (Expr-F.Field a k) = a
names_step (Expr-F.Has a k) = a
names_step (Expr-F.Set xs) = joined xs
names_step (Expr-F.Record fs) = joined (values_of fs)
names_step (Expr-F.UnaryCall called a) = a
names_step (Expr-F.BinaryCall called a b) = a ++ b

-- `names_in x` is the list of names in the expression `x`.
abbrev pub names_in : Expr → List Name
names_in = fold-Expr (List Name) names_step

-- `names_of policy` is the list of names in `policy`: those of its scope (principal, action, resource), then those of
-- its conditions.
abbrev pub names_of : Policy → List Name
names_of policy = names_in (expression_of policy)
