-- Defines the tree that a text is parsed into, or the error of a text without a tree: an error in the text's length,
-- tokens or grammar.
-- Source: Cedar reference guide 4.0, "Grammar specification for Cedar policy syntax". The limits, the errors and
-- their order are rules of this product.
use Rattle.std.specs.Prelude.{◌≡◌, ℕ, ◌≤◌, ◌<◌, List, length, Option, Some, None, slice_get}
use Rattle.grammar_desugaring.specs.grammar_syntax.declared.token.Token.{Token}
use Rattle.grammar_desugaring.specs.grammar_syntax.Lexing.{IsLexed, IsBadAt}
use Rattle.grammar_desugaring.specs.grammar_syntax.declared.fault.SyntaxFault.{SyntaxFault}
use Rattle.grammar_desugaring.specs.grammar_syntax.declared.fault.SyntaxFault.TheVariants as syntax
use Rattle.grammar_desugaring.specs.grammar_syntax.Lang.{Lang}
use Rattle.grammar_desugaring.specs.grammar_syntax.ParseResults.{IsRefusedWithin}
use Rattle.policy_grammar.specs.declared.fault.ReadFault.{ReadFault}
use Rattle.policy_grammar.specs.declared.fault.ReadFault.TheVariants as fault

-- `most_policy_bytes` is the greatest length, in bytes, of the text of a uid, or of a policy that is parsed alone;
-- `most_file_bytes` is that of a file.
abbrev pub most_policy_bytes : ℕ
most_policy_bytes = 262_144

abbrev pub most_file_bytes : ℕ
most_file_bytes = 8_388_608

-- `Derives L most text tree` holds if `text` has at most `most` bytes, and its tokens derive `tree` in the language
-- `L`.
pub record Derives {A : Type 0} (L : Lang A) (most : ℕ) (text : List ℕ) (tree : A) : Type 0 where
  pub short : length text ≤ most
  pub tokens : List Token
  pub lexed : IsLexed text tokens
  pub derived : L tokens tree

-- The following definitions have the errors in the order in which they are checked: each is reported only if the text
-- has none of the earlier ones. `NoMemory` is not among them, since it does not depend on the text.

-- `byte_of text token` is the byte at which `token` starts, or the text's length if `token` is `None`.
abbrev pub byte_of : List ℕ → Option Token → ℕ
byte_of text None = length text
byte_of text (Some token) = token.start

-- `StopsAt L K most text why at` holds if `text` has at most `most` bytes, and its tokens leave the language `L` at the
-- byte `at`, with an error of the kind `why`. The tokens before that byte begin something in `L`. With the token at the
-- byte they begin nothing in `L`; or, if the byte is the text's end, they derive nothing in `L`. For example, the
-- tokens of `permit(principal, action);` leave the language of policies at `)`, byte 24. `K` is the language `L`
-- without the limit of 64 levels of nesting.
pub record StopsAt {A : Type 0} (L K : Lang A) (most : ℕ) (text : List ℕ) (why : ℕ → SyntaxFault) (at : ℕ) :
    Type 0 where
  pub short : length text ≤ most
  pub tokens : List Token
  pub lexed : IsLexed text tokens
  pub place : ℕ
  pub refused : IsRefusedWithin L K tokens (why place)
  pub byte : at ≡ byte_of text (slice_get tokens place)

-- `IsUnread L K most text why` holds if `why` is the error of `text`, which has no tree in `L`. The error is that the
-- text has over `most` bytes; else that it is bad at a byte (`IsBadAt`); else that its tokens leave the language, or
-- nest too deep (`StopsAt`, which also describes `K`).
abbrev pub IsUnread : {A : Type 0} → Lang A → Lang A → ℕ → List ℕ → ReadFault → Type 0
IsUnread L K most text fault.TooLong = most < length text
IsUnread L K most text (fault.BadToken at) = (length text ≤ most) × IsBadAt text at
IsUnread L K most text (fault.Unexpected at) = StopsAt L K most text syntax.Unexpected at
IsUnread L K most text (fault.Slot at) = StopsAt L K most text syntax.Slot at
IsUnread L K most text (fault.TooDeep at) = StopsAt L K most text syntax.TooDeep at
IsUnread L K most text _ = ⊥
