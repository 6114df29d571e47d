pub mod ScopeRules
pub mod ScopeTail
pub mod Exact
pub mod WellFormedLemmas
pub mod PolicyRules
pub mod Follows
pub mod SymbolRules
pub mod NamedRules
pub mod AlivePrimaries
pub mod Alive
pub mod PrimaryRules
pub mod ExpressionRules
pub mod PrimaryFirm
pub mod ExpressionFirm
pub mod ExpressionExact
pub mod RelationsDerived
pub mod Tails
pub mod Unfollowed
pub mod TreeWellFormed
pub mod ExpressionWellFormed
pub mod Published
-- of this layer
pub use Rattle.grammar_syntax.proofs as of_grammar_syntax
