-- Defines how a level of operators is parsed: an operand, and then pieces as long as a token of a set comes next.
use Rattle.std.specs.Prelude.{List}
use Rattle.grammar_syntax.specs.Kinds.{Kinds}
use Rattle.grammar_syntax.specs.ParserCombinators.{Parser, many, pure, ◌>>=◌}
use Rattle.grammar_syntax.specs.declared.tree.ExprTree.{ExprTree}
use Rattle.grammar_parsing.specs.Expressions.{joined}

-- `chained ks piece make x` parses the pieces after the operand `x`, each by `piece`, as long as a token of `ks` comes
-- next, and joins them to `x` by `make`.
abbrev pub chained : {A : Type 0} → Kinds → Parser A → (ExprTree → List A → ExprTree) → ExprTree → Parser ExprTree
chained ks piece make x = many ks piece >>= (λ more. pure (joined make x more))
