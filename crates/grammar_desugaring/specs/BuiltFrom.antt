-- Defines when a tree is made of tokens that a text spells.
use Rattle.std.specs.Prelude.{ℕ, List}
use Rattle.std.specs.List.{AllByRecursion}
use Rattle.grammar_syntax.specs.declared.token.Token.{Token}
use Rattle.grammar_syntax.specs.Lexing.{IsSpelledIn}

-- `IsBuiltFrom text WellFormed` holds if `WellFormed ts` holds for some tokens `ts`, each spelled in `text`.
-- `WellFormed ts` states that a given tree is made of the tokens `ts`.
pub record IsBuiltFrom (text : List ℕ) (WellFormed : List Token → Type 0) : Type 0 where
  pub tokens : List Token
  pub spelled : AllByRecursion (IsSpelledIn text) tokens
  pub is_well_formed : WellFormed tokens
