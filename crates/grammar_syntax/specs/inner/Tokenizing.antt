-- Defines the relations in the contracts of the tokenizer's private functions.
use Prim.Native.Char.{code}
use Rattle.std.specs.Prelude.{◌≡◌, ℕ, Bool, true, not, ◌&&◌, ◌||◌, ◌==◌, List, [], ◌∷◌, ◌++◌}
use Rattle.std.specs.Prelude.{length, drop, Option, Some, None, encode_utf8}
use Rattle.std.specs.Char.{is_whitespace}
use Rattle.std.specs.List.{list_any}
use Rattle.std.specs.Str.{IsCharBoundary}
use Rattle.grammar_syntax.specs.declared.token.TokenKind.{TokenKind}
use Rattle.grammar_syntax.specs.declared.token.TokenKind.TheVariants.{StarText}
use Rattle.grammar_syntax.specs.declared.token.ScannedToken.{ScannedToken}
use Rattle.grammar_syntax.specs.declared.piece.Piece.{Piece}
use Rattle.grammar_syntax.specs.declared.piece.Piece.TheVariants.{Byte, Char, Star}
use Rattle.grammar_syntax.specs.declared.piece.Escape.{Escape}
use Rattle.grammar_syntax.specs.Lexing.{backslash, listed, singles, pairs, IsEscape, IsBody, IsLongest, NoToken, IsGap}
use Rattle.grammar_syntax.specs.Lexing.{NoGap}
use Rattle.grammar_syntax.specs.Strings.{bytes_of, is_wildcard}

-- ## Tokens at the front of a text

-- `IsFirst found text` holds if `found` has the kind and the length of the longest token that `text` begins with.
pub record IsFirst (found : ScannedToken) (text : List ℕ) : Type 0 where
  pub w : List ℕ
  pub rest : List ℕ
  pub cut : text ≡ w ++ rest
  pub longest : IsLongest found.kind w rest
  pub len : length w ≡ found.len

-- `ReportsToken text o` holds if `o` is the longest token that `text` begins with, or `None` if `text` does not begin
-- with a token.
abbrev pub ReportsToken : List ℕ → Option ScannedToken → Type 0
ReportsToken text None = NoToken text
ReportsToken text (Some found) = IsFirst found text

-- `sized n k` is a token of `n` bytes of the kind `k`, or `None` if `k` is `None`.
abbrev pub sized : ℕ → Option TokenKind → Option ScannedToken
sized n None = None
sized n (Some k) = Some (record { kind = k; len = n })

-- `first_found o other` is the token `o`, or `other` if `o` is `None`.
abbrev pub first_found : Option ScannedToken → Option ScannedToken → Option ScannedToken
first_found None other = other
first_found (Some f) other = Some f

-- `mark_of text` is the punctuation mark that `text` begins with: a mark of two bytes, else of one byte, else `None`.
abbrev pub mark_of : List ℕ → Option ScannedToken
mark_of [] = None
mark_of (c ∷ []) = sized 1 (listed singles (c ∷ []))
mark_of (c ∷ d ∷ rest) = first_found (sized 2 (listed pairs (c ∷ d ∷ []))) (sized 1 (listed singles (c ∷ [])))

-- ## Whitespace and comments at the front of a text

-- `IsGapOf len text` holds if `text` begins with a whitespace character or a comment of `len` bytes.
pub record IsGapOf (len : ℕ) (text : List ℕ) : Type 0 where
  pub w : List ℕ
  pub rest : List ℕ
  pub cut : text ≡ w ++ rest
  pub is : IsGap w rest
  pub long : length w ≡ len

-- `ReportsGap text o` holds if `o` is the length of the whitespace character or comment that `text` begins with, or
-- `None` if it begins with neither.
abbrev pub ReportsGap : List ℕ → Option ℕ → Type 0
ReportsGap text None = NoGap text
ReportsGap text (Some len) = IsGapOf len text

-- `ReportsBlank text o` holds if `o` is the length of the whitespace character that `text` begins with, or `None` if it
-- does not begin with one.
abbrev pub ReportsBlank : List ℕ → Option ℕ → Type 0
ReportsBlank text None = (c : ℕ) (more : List ℕ) → is_whitespace c ≡ true → text ≡ encode_utf8 c ++ more → ⊥
ReportsBlank text (Some len) = (c : ℕ) × (more : List ℕ) × (is_whitespace c ≡ true) × (text ≡ encode_utf8 c ++ more)
    × (len ≡ length (encode_utf8 c))

-- ## Strings

-- `NoEscape text` holds if `text` does not begin with an escape.
abbrev pub NoEscape : List ℕ → Type 0
NoEscape text = (p : Piece) (w more : List ℕ) → IsEscape p w → text ≡ w ++ more → ⊥

-- `IsFirstEscape found text` holds if `found` has the meaning and the length of the escape that `text` begins with.
pub record IsFirstEscape (found : Escape) (text : List ℕ) : Type 0 where
  pub w : List ℕ
  pub rest : List ℕ
  pub cut : text ≡ w ++ rest
  pub is : IsEscape found.piece w
  pub long : length w ≡ found.len

-- `ReportsEscape text o` holds if `o` is the escape that `text` begins with, or `None` if it does not begin with one.
abbrev pub ReportsEscape : List ℕ → Option Escape → Type 0
ReportsEscape text None = NoEscape text
ReportsEscape text (Some found) = IsFirstEscape found text

-- `kind_with k p` is the kind of a string that has the piece `p` and, without that piece, would have the kind `k`.
abbrev pub kind_with : TokenKind → Piece → TokenKind
kind_with k (Byte b) = k
kind_with k (Char c) = k
kind_with k Star = StarText

-- `is_plain in_pattern c` tests whether the byte `c` between quotes denotes itself; a star does not if `in_pattern` is
-- true.
unfoldable pub is_plain : Bool → ℕ → Bool
is_plain in_pattern c = not ((c == backslash) || (in_pattern && (c == code "*")))

-- `character_of p` is the character that the escape `p` denotes; `*` for a `Byte`, which is not an escape.
abbrev pub character_of : Piece → ℕ
character_of (Byte b) = code "*"
character_of (Char c) = c
character_of Star = code "*"

-- `is_literal in_pattern ps` tests whether no piece of `ps` is a wildcard. A `*` is one only if `in_pattern` is true.
abbrev pub is_literal : Bool → List Piece → Bool
is_literal in_pattern ps = not (in_pattern && list_any is_wildcard ps)

-- `EndsLiteral in_pattern body` holds if `body` is empty, or if `in_pattern` is true and `body` begins with `*`, a
-- wildcard.
abbrev pub EndsLiteral : Bool → List ℕ → Type 0
EndsLiteral in_pattern [] = Unit {0}
EndsLiteral in_pattern (c ∷ cs) = (in_pattern ≡ true) × (c ≡ code "*")

-- `IsRead in_pattern value len body` holds if the first `len` bytes of `body` denote `value`, without a wildcard, and
-- the rest is a body too. A `*` is a wildcard only if `in_pattern` is true.
pub record IsRead (in_pattern : Bool) (value : List ℕ) (len : ℕ) (body : List ℕ) : Type 0 where
  pub front : List ℕ
  pub pieces : List Piece
  pub is : IsBody pieces front
  pub cut : body ≡ front ++ drop len body
  pub long : length front ≡ len
  pub literal : is_literal in_pattern pieces ≡ true
  pub value_is : value ≡ bytes_of pieces
  pub boundary : IsCharBoundary body len
  pub left : List Piece
  pub behind : IsBody left (drop len body)

-- `IsLiteral in_pattern value len body` holds if `IsRead` does, and the first `len` bytes of `body` are followed by a
-- wildcard or by nothing.
pub record IsLiteral (in_pattern : Bool) (value : List ℕ) (len : ℕ) (body : List ℕ) : Type 0 where
  pub read : IsRead in_pattern value len body
  pub ends : EndsLiteral in_pattern (drop len body)
