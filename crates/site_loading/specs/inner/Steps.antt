-- Defines when the bytes of a file have tokens. Each file that was parsed has them.
use Rattle.std.specs.Prelude.{List, ℕ}
use Rattle.std.specs.Str.{IsUtf8}
use Rattle.policy_grammar.specs.grammar_syntax.declared.token.Token.{Token}
use Rattle.policy_grammar.specs.grammar_syntax.Lexing.{IsLexed}

-- `HasTokens bytes` holds if `bytes` are UTF-8, and the lexer splits them into tokens without an error.
pub record HasTokens (bytes : List ℕ) : Type 0 where
  pub utf8 : IsUtf8 bytes
  pub tokens : List Token
  pub lexed : IsLexed bytes tokens
