-- The rule of expressions and what their trees are made of, and the same of tokens that stand for something by their
-- kind alone, for the proofs of readers above: this file is meant to be imported, as the library of `grammar_syntax` is.
-- The other files of this folder are the crate's own.
pub use Rattle.grammar_parsing.proofs.Follows.{after_expr}
pub use Rattle.grammar_parsing.proofs.ExpressionRules.{expr_rule, alive_expr}
pub use Rattle.grammar_parsing.proofs.ExpressionWellFormed.{expr_in}
pub use Rattle.grammar_parsing.proofs.SymbolRules.{starts_symbol, symbol_in, symbol_rule}
