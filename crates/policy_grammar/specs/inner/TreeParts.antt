-- Defines the relations in the contracts of the private functions that parse a text into a tree.
use Rattle.std.specs.Prelude.{ℕ, ◌≤◌, ◌<◌, List, length, slice_get}
use Rattle.std.specs.List.{AllByRecursion}
use Rattle.grammar_desugaring.specs.grammar_syntax.declared.token.Token.{Token}
use Rattle.grammar_desugaring.specs.grammar_syntax.Lexing.{IsLexed, IsSpelledIn, IsBadAt}
use Rattle.grammar_desugaring.specs.grammar_syntax.declared.fault.SyntaxFault.{SyntaxFault}
use Rattle.grammar_desugaring.specs.grammar_syntax.declared.fault.SyntaxFault.TheVariants as syntax
use Rattle.policy_grammar.specs.declared.fault.ReadFault.{ReadFault}
use Rattle.policy_grammar.specs.declared.fault.ReadFault.TheVariants as fault
use Rattle.policy_grammar.specs.Texts.{byte_of}

-- `LexedIn most text tokens` holds if `text` has at most `most` bytes, and its tokens are `tokens`.
pub record LexedIn (most : ℕ) (text : List ℕ) (tokens : List Token) : Type 0 where
  pub short : length text ≤ most
  pub lexed : IsLexed text tokens
  pub spelled : AllByRecursion (IsSpelledIn text) tokens

-- `IsUnlexed most text why` holds if `why` is the error of `text`: it has over `most` bytes, or it is bad at a byte
-- (`IsBadAt`).
abbrev pub IsUnlexed : ℕ → List ℕ → ReadFault → Type 0
IsUnlexed most text fault.TooLong = most < length text
IsUnlexed most text (fault.BadToken at) = (length text ≤ most) × IsBadAt text at
IsUnlexed most text _ = ⊥

-- `refusal_of text tokens fault` is the error `fault` with a byte offset in `text` in place of the index of one of
-- `tokens`.
abbrev pub refusal_of : List ℕ → List Token → SyntaxFault → ReadFault
refusal_of text tokens syntax.NoMemory = fault.NoMemory
refusal_of text tokens (syntax.Unexpected place) = fault.Unexpected (byte_of text (slice_get tokens place))
refusal_of text tokens (syntax.Slot place) = fault.Slot (byte_of text (slice_get tokens place))
refusal_of text tokens (syntax.TooDeep place) = fault.TooDeep (byte_of text (slice_get tokens place))
