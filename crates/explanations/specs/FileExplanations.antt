-- Defines the text that explains what is rejected in files: a schema, policies, entities and a request.
-- Rules of this product: a rejected schema is explained alone. Otherwise each rejected policy is explained, in the
-- order of the file, then the first error of the entities, then that of the request. Of a file of policies that is not
-- UTF-8, no line is shown, but the first byte that is no part of a character is named.
use Rattle.std.specs.Prelude.{◌≡◌, ◌⊎◌, ℕ, true, false, List, [], ◌++◌, Option, None, Some, option_map, unwrap_or}
use Rattle.std.specs.Prelude.{length, codes, decimal}
use Rattle.std.specs.Str.{IsUtf8, IsValidUpTo}
use Rattle.grammar_desugaring.specs.grammar_syntax.declared.token.Token.{Token}
use Rattle.grammar_desugaring.specs.grammar_syntax.Lexing.{IsLexed, IsBadAt}
use Rattle.policy_grammar.specs.declared.policy.Policy.{Policy}
use Rattle.schema_decisions.specs.schema.Schemas.{StatedSchema, IsSchemaOf}
use Rattle.schema_decisions.specs.answer_lines.Refusals.{number_in}
use Rattle.schema_decisions.specs.answer_lines.declared.refusal.Refusal.{Refusal}
use Rattle.schema_decisions.specs.decision_texts.Decisions.{ArePoliciesOf, ArePoliciesRefused}
use Rattle.schema_decisions.specs.Checks.{IsSchemaRefused}
use Rattle.explanations.specs.Files.{File, Files}
use Rattle.explanations.specs.declared.pieces.Piece.{Piece}
use Rattle.explanations.specs.TextParts.{IsNothing, IsWholeAt}
use Rattle.explanations.specs.Pieces.{ArePiecesOf}
use Rattle.explanations.specs.Policies.{ArePoliciesExplained}
use Rattle.explanations.specs.UnparsedFiles.{IsReadErrorText, ArePiecesExplained}
use Rattle.explanations.specs.EntitiesAndRequests.{AreEntitiesExplained, IsRequestExplained}

-- `AreTokensOf text ts` holds if `ts` are the tokens of `text`, or `[]` if at some byte no token begins.
abbrev pub AreTokensOf : List ℕ → List Token → Type 0
AreTokensOf text ts = IsLexed text ts ⊎ (((at : ℕ) × IsBadAt text at) × (ts ≡ []))

-- ---- a file of policies

-- `IsUnreadExplained s file text tokens pieces r bytes` holds if `bytes` explain why the file `file`, with this text,
-- these tokens and these pieces, is rejected with `r`: first each piece, under the schema `s` if there is one, and then
-- `r`, unless a piece has that error.
abbrev pub IsUnreadExplained
    : Option StatedSchema → List ℕ → List ℕ → List Token → List Piece → Refusal → List ℕ → Type 0
IsUnreadExplained s file text tokens pieces r bytes =
    ArePiecesExplained s file text tokens r pieces true bytes
    ⊎ ((before : List ℕ) × (last : List ℕ) × ArePiecesExplained s file text tokens r pieces false before
    × IsReadErrorText file text tokens r.code (unwrap_or (number_in r.place) 0) last × (bytes ≡ before ++ last))

-- `IsOutcomeExplained s file text tokens pieces bytes` holds if `bytes` explain what is rejected in the file `file`
-- with this text, these tokens and these pieces.
pub data IsOutcomeExplained (s : Option StatedSchema) (file text : List ℕ) (tokens : List Token) (pieces : List Piece)
    : List ℕ → Type 0 where
  read : (names : List (List ℕ)) (cores : List Policy) (bytes : List ℕ) → ArePoliciesOf text names cores
      → ArePoliciesExplained s file text pieces cores bytes → IsOutcomeExplained s file text tokens pieces bytes
  unread : (r : Refusal) (bytes : List ℕ) → ArePoliciesRefused text r
      → IsUnreadExplained s file text tokens pieces r bytes → IsOutcomeExplained s file text tokens pieces bytes

-- `IsTextExplained s file text bytes` holds if `bytes` explain what is rejected in the file `file` of policies with
-- this text, under the schema `s` if there is one.
pub record IsTextExplained (s : Option StatedSchema) (file text bytes : List ℕ) : Type 0 where
  pub tokens : List Token
  pub are_tokens : AreTokensOf text tokens
  pub pieces : List Piece
  pub are_pieces : ArePiecesOf (length text) tokens pieces
  pub outcome : IsOutcomeExplained s file text tokens pieces bytes

-- `not_utf8_words at` say that a file is not UTF-8, and that the bytes before the byte `at` are.
abbrev pub not_utf8_words : ℕ → List ℕ
not_utf8_words at = codes "the file is not UTF-8 at byte " ++ decimal at ++ codes " (from 0)"

-- `IsNoTextExplained file held bytes` holds if `bytes` explain that `held`, the content of the file `file`, is not
-- UTF-8: with the code of the file's error and the first byte that is no part of a character, and without an excerpt.
pub record IsNoTextExplained (file held bytes : List ℕ) : Type 0 where
  pub at : ℕ
  pub is_utf8_before : IsValidUpTo held at
  pub r : Refusal
  pub is_refused : ArePoliciesRefused held r
  pub is_text : IsWholeAt file r.code None (λ words. words ≡ not_utf8_words at) bytes

-- `IsFileExplained s file held bytes` holds if `bytes` explain what is rejected in the file `file` of policies, whose
-- content is `held`, under the schema `s` if there is one.
abbrev pub IsFileExplained : Option StatedSchema → List ℕ → List ℕ → List ℕ → Type 0
IsFileExplained s file held bytes =
    (IsUtf8 held × IsTextExplained s file held bytes) ⊎ IsNoTextExplained file held bytes

-- ---- all texts

-- `AreOthersExplained s given bytes` holds if `bytes` explain what is rejected in the policies, then in the entities,
-- then in the request, under the schema `s` if there is one.
pub record AreOthersExplained (s : Option StatedSchema) (given : Files) (bytes : List ℕ) : Type 0 where
  pub first : List ℕ
  pub second : List ℕ
  pub third : List ℕ
  pub policies : IsFileExplained s given.policies.name given.policies.text first
  pub entities : AreEntitiesExplained s given.entities second
  pub request : IsRequestExplained s (option_map (λ file. file.text) given.schema) given.request third
  pub is : bytes ≡ first ++ second ++ third

-- `IsExplainedUnder schema given bytes` holds if `bytes` explain what is rejected under the schema of the file
-- `schema`, or why that schema is rejected.
abbrev pub IsExplainedUnder : File → Files → List ℕ → Type 0
IsExplainedUnder schema given bytes =
    ((s : StatedSchema) × IsSchemaOf schema.text s × AreOthersExplained (Some s) given bytes)
    ⊎ ((r : Refusal) × IsSchemaRefused schema.text r × IsWholeAt schema.name r.code (number_in r.place) IsNothing bytes)

-- `IsExplainedAs schema given bytes` is the same relation if there is a file `schema`; else `bytes` explain what is
-- rejected without a schema.
abbrev pub IsExplainedAs : Option File → Files → List ℕ → Type 0
IsExplainedAs None given bytes = AreOthersExplained None given bytes
IsExplainedAs (Some schema) given bytes = IsExplainedUnder schema given bytes

-- `IsExplained given bytes` holds if `bytes` explain what is rejected in the files `given`.
abbrev pub IsExplained : Files → List ℕ → Type 0
IsExplained given bytes = IsExplainedAs given.schema given bytes
