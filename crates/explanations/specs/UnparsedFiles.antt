-- Defines the explanation of the policies of a file that does not parse.
-- Rules of this product: each piece of the file, which ends with a `;` or with the file, is parsed as a file of its
-- own, in order. A piece that does not parse is explained by its first error; if a piece parses, its policy is
-- explained as in a file that parses. The error of a piece is that of the file if both have the same code at the same
-- byte, or the same code 18 or 19, whose errors have no byte of their own. An error is shown at the token at its byte;
-- an error of the grammar has that token as its cause.
use Rattle.std.specs.Prelude.{◌==◌, ◌&&◌, nat_le, ◌<◌, ◌≤◌, ◌⊎◌, codes, length}
use Rattle.std.specs.Prelude.{◌≡◌, ℕ, ◌+◌, min, Bool, true, false, ◌||◌, List, [], ◌∷◌, ◌++◌, Option, unwrap_or}
use Rattle.std.specs.Prelude.{find, option_map}
use Rattle.grammar_desugaring.specs.grammar_syntax.declared.token.Token.{Token}
use Rattle.policy_grammar.specs.declared.policy.Policy.{Policy}
use Rattle.policy_grammar.specs.declared.fault.ReadFault.{ReadFault}
use Rattle.policy_grammar.specs.Faults.{code_of, place_of}
use Rattle.policy_grammar.specs.PolicyText.{IsPolicyFile, IsFileRefused}
use Rattle.schema_decisions.specs.schema.Schemas.{StatedSchema}
use Rattle.schema_decisions.specs.answer_lines.Refusals.{number_in}
use Rattle.schema_decisions.specs.answer_lines.declared.refusal.Refusal.{Refusal}
use Rattle.explanations.specs.declared.pieces.Piece.{Piece}
use Rattle.explanations.specs.TextParts.{IsPartOf, IsSourceAt}
use Rattle.explanations.specs.Policies.{ArePoliciesExplained}

-- `byte_in piece fault` is the byte of the whole text at which `piece` has the error `fault`. (At most 2^64 - 1, which
-- is no restriction: no text is so long.)
abbrev pub byte_in : Piece → ReadFault → ℕ
byte_in piece fault = min (piece.start + unwrap_or (place_of fault) 0) 18446744073709551615

-- `is_placeless code` tests for the errors that have no byte of their own: too long (18) and bad id (19).
abbrev pub is_placeless : ℕ → Bool
is_placeless code = nat_le 18 code && nat_le code 19

-- `is_that r code at` tests whether an error of this code at this byte is the error `r` of the file.
abbrev pub is_that : Refusal → ℕ → ℕ → Bool
is_that r code at = (code == r.code) && ((at == unwrap_or (number_in r.place) 0) || is_placeless code)

-- `end_of_token tokens at` is the byte after the first of `tokens` that starts at the byte `at`; `at` itself if none
-- starts there.
abbrev pub end_of_token : List Token → ℕ → ℕ
end_of_token tokens at = unwrap_or (option_map (λ t. t.end) (find (λ t. t.start == at) tokens)) at

-- `names_token code` tests for the errors of the grammar, whose cause is a token: 11 (unexpected) to 16 (slot).
abbrev pub names_token : ℕ → Bool
names_token code = nat_le 11 code && nat_le code 16

-- `IsCauseAt text code at end cause` holds if `cause` is the cause of an error of this code at the token between the
-- bytes `at` and `end` of `text`: that token, or `end of the text` if `at` is not before the end of `text`; nothing for
-- an error that names no token.
abbrev pub IsCauseAt : List ℕ → ℕ → ℕ → ℕ → List ℕ → Type 0
IsCauseAt text code at end cause =
    ((names_token code ≡ false) × (cause ≡ []))
    ⊎ ((names_token code ≡ true) × (at < length text) × IsPartOf text at end cause)
    ⊎ ((names_token code ≡ true) × (length text ≤ at) × (cause ≡ codes "end of the text"))

-- `IsReadErrorText file text tokens code at bytes` holds if `bytes` explain an error of this code at the byte `at` of
-- `text`, the text of the file `file`, with these tokens.
abbrev pub IsReadErrorText : List ℕ → List ℕ → List Token → ℕ → ℕ → List ℕ → Type 0
IsReadErrorText file text tokens code at =
    IsSourceAt file text [] code at (end_of_token tokens at) (IsCauseAt text code at (end_of_token tokens at))

-- `IsPieceExplained s file text tokens r piece told bytes` holds if `bytes` explain what is rejected in the piece
-- `piece` of the file `file`, where the file has the text `text`, these tokens and the error `r`; `told` says whether
-- the piece by itself does not parse and has the error `r`.
pub data IsPieceExplained (s : Option StatedSchema) (file text : List ℕ) (tokens : List Token) (r : Refusal)
    (piece : Piece) : Bool → List ℕ → Type 0 where
  is_read : (part : List ℕ) (names : List (List ℕ)) (cores : List Policy) (bytes : List ℕ)
      → IsPartOf text piece.start piece.end part → IsPolicyFile part names cores
      → ArePoliciesExplained s file text (piece ∷ []) cores bytes
      → IsPieceExplained s file text tokens r piece false bytes
  is_unread : (part : List ℕ) (fault : ReadFault) (bytes : List ℕ) → IsPartOf text piece.start piece.end part
      → IsFileRefused part fault → IsReadErrorText file text tokens (code_of fault) (byte_in piece fault) bytes
      → IsPieceExplained s file text tokens r piece (is_that r (code_of fault) (byte_in piece fault)) bytes

-- `ArePiecesExplained s file text tokens r pieces told bytes` holds if `bytes` explain each of the pieces, in order;
-- `told` says whether `r` is the error of one of them.
pub data ArePiecesExplained (s : Option StatedSchema) (file text : List ℕ) (tokens : List Token) (r : Refusal)
    : List Piece → Bool → List ℕ → Type 0 where
  none : ArePiecesExplained s file text tokens r [] false []
  more : (ps : List Piece) (p : Piece) (some told : Bool) (before bytes : List ℕ)
      → ArePiecesExplained s file text tokens r ps some before → IsPieceExplained s file text tokens r p told bytes
      → ArePiecesExplained s file text tokens r (ps ++ p ∷ []) (some || told) (before ++ bytes)

-- `AppendsExplained Is old new told` holds if `new` is `old` followed by bytes for which `Is told` holds.
abbrev pub AppendsExplained : (Bool → List ℕ → Type 0) → List ℕ → List ℕ → Bool → Type 0
AppendsExplained Is old new told = (bytes : List ℕ) × Is told bytes × (new ≡ old ++ bytes)
