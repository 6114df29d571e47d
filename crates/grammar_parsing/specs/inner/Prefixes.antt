-- Defines the tokens and the trees of the prefixes `!` and `-` of a Member.
use Rattle.grammar_syntax.specs.declared.token.TokenKind.{TokenKind}
use Rattle.grammar_syntax.specs.declared.token.TokenKind.TheVariants as k
use Rattle.grammar_parsing.specs.declared.operators.Prefix.{Prefix}
use Rattle.grammar_parsing.specs.declared.operators.Prefix.TheVariants.{Not, Minus}
use Rattle.grammar_syntax.specs.declared.tree.ExprTree.{ExprTree}
use Rattle.grammar_syntax.specs.declared.tree.ExprTree.TheVariants as tree

-- `kind_of p` is the kind of the token of the prefix `p`.
abbrev pub kind_of : Prefix → TokenKind
kind_of Not = k.Not
kind_of Minus = k.Minus

-- `under p x` is the tree of the prefix `p` with the operand `x`.
abbrev pub under : Prefix → ExprTree → ExprTree
under Not = tree.Not
under Minus = tree.Minus
