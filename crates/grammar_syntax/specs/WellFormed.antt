-- Defines well-formed trees: their tokens are among given tokens, each of a kind that its position allows.
use Rattle.std.specs.Prelude.{List}
use Rattle.std.specs.List.{AllByRecursion}
use Rattle.grammar_syntax.specs.declared.token.Token.{Token}
use Rattle.grammar_syntax.specs.declared.tree.ExprTree.{ExprTree}
pub use Rattle.grammar_syntax.specs.WellFormedNames.{WellFormedToken, WellFormedPath, WellFormedUid}
use Rattle.grammar_syntax.specs.Parts.{parts_of}

-- `WellFormedExpr ts x` holds if each part of the expression `x` is one of the tokens `ts`, of a kind that its position
-- allows.
pub record WellFormedExpr (ts : List Token) (x : ExprTree) : Type 0 where
  pub parts : AllByRecursion (λ p. WellFormedToken p.kinds ts p.token) (parts_of x)
