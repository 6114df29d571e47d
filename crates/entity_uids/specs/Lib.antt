pub mod Laws
pub mod Tokens
pub mod Uids
-- of lower layers
pub use Rattle.policy_grammar.specs as policy_grammar
