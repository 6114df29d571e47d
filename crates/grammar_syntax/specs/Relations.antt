-- Defines the form of relations: an operand with at most one tail (an operator and what follows it), so comparisons do
-- not chain.
-- Source: Cedar reference guide 4.0, "Grammar specification for Cedar policy syntax" (Relation).
use Rattle.std.specs.Prelude.{◌≡◌, List, ◌++◌}
use Rattle.grammar_syntax.specs.declared.token.Token.{Token}
use Rattle.grammar_syntax.specs.Lang.{Lang, ◌>>=◌}
use Rattle.grammar_syntax.specs.declared.tree.ExprTree.{ExprTree}

-- `relation operand tailed` is the language of relations: tokens that derive an operand `x` in `operand`, then tokens
-- that derive the relation in `tailed x`.
abbrev pub relation : Lang ExprTree → (ExprTree → Lang ExprTree) → Lang ExprTree
relation operand tailed = operand >>= tailed

-- `DerivesFront L ts a rest` holds if `ts` are tokens that derive `a` in `L`, followed by the tokens `rest`.
pub record DerivesFront {A : Type 0} (L : Lang A) (ts : List Token) (a : A) (rest : List Token) : Type 0 where
  pub front : List Token
  pub whole : ts ≡ front ++ rest
  pub derived : L front a
