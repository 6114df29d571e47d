-- Defines the meaning of a string of a policy: its value, or the literal texts of a pattern.
-- Source: Cedar reference guide 4.0, "Data types: String" (escape sequences) and "Operators: like" (`*` is any run of
-- characters, `\*` a star).
use Prim.Native.Char.{code}
use Rattle.std.specs.Prelude.{◌≡◌, ℕ, Bool, true, false, ◌==◌, if◌then◌else◌, List, [], ◌∷◌, ◌++◌, codes, encode_utf8}
use Rattle.grammar_syntax.specs.declared.piece.Piece.{Piece}
use Rattle.grammar_syntax.specs.declared.piece.Piece.TheVariants.{Byte, Char, Star}
use Rattle.grammar_syntax.specs.declared.token.TokenKind.{TokenKind}
use Rattle.grammar_syntax.specs.declared.token.TokenKind.TheVariants.{Text, StarText}
use Rattle.grammar_syntax.specs.Lexing.{quote, IsBody, has_star, IsToken}

-- `is_string k` tests whether tokens of kind `k` are strings.
abbrev pub is_string : TokenKind → Bool
is_string Text = true
is_string StarText = true
is_string other = false

-- `piece_bytes p` are the bytes that the piece `p` denotes.
abbrev pub piece_bytes : Piece → List ℕ
piece_bytes (Byte b) = b ∷ []
piece_bytes (Char c) = encode_utf8 c
piece_bytes Star = codes "*"

-- `bytes_of ps` are the bytes that the pieces `ps` denote.
abbrev pub bytes_of : List Piece → List ℕ
bytes_of [] = []
bytes_of (p ∷ ps) = piece_bytes p ++ bytes_of ps

-- `IsStringOf value spelling` holds if `spelling` is a string in quotes, without `\*`, with the value `value`.
pub record IsStringOf (value spelling : List ℕ) : Type 0 where
  pub pieces : List Piece
  pub body : List ℕ
  pub is : IsBody pieces body
  pub spelled : spelling ≡ quote ∷ body ++ quote ∷ []
  pub no_star : has_star pieces ≡ false
  pub value_is : value ≡ bytes_of pieces

-- `is_wildcard p` tests whether the piece `p` is an unescaped `*`, the wildcard of a pattern; an escaped one is a
-- literal star.
abbrev pub is_wildcard : Piece → Bool
is_wildcard (Byte b) = b == code "*"
is_wildcard (Char c) = false
is_wildcard Star = false

-- `prefixed bytes texts` are `texts`, with `bytes` in front of the first; if `texts` is empty, only `bytes`.
abbrev pub prefixed : List ℕ → List (List ℕ) → List (List ℕ)
prefixed bytes [] = bytes ∷ []
prefixed bytes (first ∷ more) = (bytes ++ first) ∷ more

-- `literals_of ps` are the literal texts before, between and after the wildcards of the pieces `ps`: one more than
-- there are wildcards.
abbrev pub literals_of : List Piece → List (List ℕ)
literals_of [] = [] ∷ []
literals_of (p ∷ ps) = if is_wildcard p then [] ∷ literals_of ps else prefixed (piece_bytes p) (literals_of ps)

-- `IsPatternOf literals spelling` holds if `spelling` is a string in quotes that, as a pattern, has the literal texts
-- `literals`, with a wildcard between adjacent ones.
pub record IsPatternOf (literals : List (List ℕ)) (spelling : List ℕ) : Type 0 where
  pub pieces : List Piece
  pub body : List ℕ
  pub is : IsBody pieces body
  pub spelled : spelling ≡ quote ∷ body ++ quote ∷ []
  pub literals_are : literals ≡ literals_of pieces

-- ## Theorems

-- `HasValue`: a string without `\*` has a value.
abbrev pub HasValue : Type 0
HasValue = (spelling : List ℕ) → IsToken Text spelling → (value : List ℕ) × IsStringOf value spelling

-- `OneValue`: a string has at most one value.
abbrev pub OneValue : Type 0
OneValue = (v w spelling : List ℕ) → IsStringOf v spelling → IsStringOf w spelling → v ≡ w

-- `HasPattern`: each string denotes a pattern.
abbrev pub HasPattern : Type 0
HasPattern = (k : TokenKind) (spelling : List ℕ) → IsToken k spelling → is_string k ≡ true
    → (literals : List (List ℕ)) × IsPatternOf literals spelling

-- `OnePattern`: a string denotes at most one pattern.
abbrev pub OnePattern : Type 0
OnePattern = (v w : List (List ℕ)) (spelling : List ℕ) → IsPatternOf v spelling → IsPatternOf w spelling → v ≡ w
