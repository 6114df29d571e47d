-- Defines the tokens of a policy text.
--
-- Source: Cedar reference guide 4.0, "Grammar specification for Cedar policy syntax" (IDENT, RESERVED, INT, STR,
-- WHITESPC, COMMENT and the marks of the productions). The escapes in strings are those of string literals in Rust,
-- as the guide says, and `\*` ("Operators: like").
-- Rules of this product: white space is what Unicode calls White_Space; a comment ends before a line feed or a
-- carriage return; a line end may occur in a string, but a backslash and a line end are not an escape; `\u{..}` has no
-- `_`; each token is the longest at its offset; `__cedar` is reserved.
--
-- A text is the list of its bytes in UTF-8, and an offset is a number of bytes from its start. `codes "if"` is the list
-- of the code points of `i` and `f`, and `code "i"` is the code point of `i`.
use Prim.Native.Char.{code}
use Rattle.std.specs.Prelude.{◌≡◌, ◌≢◌, ℕ, ◌+◌, ◌-◌, ◌*◌, ◌≤◌, ◌<◌, Bool, true, false, not, ◌==◌, ◌||◌, nat_eq, nat_lt}
use Rattle.std.specs.Prelude.{if◌then◌else◌, List, [], ◌∷◌, ◌++◌, length, take, drop, Option, Some, None, codes}
use Rattle.std.specs.Prelude.{◌⊎◌, encode_utf8}
use Rattle.std.specs.List.{AllByRecursion}
use Rattle.std.specs.Str.{bytes_eq, IsCharBoundary}
use Rattle.std.specs.Char.{is_whitespace, IsScalar, digit_value}
use Rattle.plain.specs.Words.{is_digit, reserved_words, AllAre, IsWord}
use Rattle.grammar_syntax.specs.declared.token.TokenKind.{TokenKind}
use Rattle.grammar_syntax.specs.declared.token.TokenKind.TheVariants.{Ident, Number, Text, StarText, True, False, If}
use Rattle.grammar_syntax.specs.declared.token.TokenKind.TheVariants.{Then}
use Rattle.grammar_syntax.specs.declared.token.TokenKind.TheVariants.{Else, In, Is, Like, Has, Cedar, Permit, Forbid}
use Rattle.grammar_syntax.specs.declared.token.TokenKind.TheVariants.{When}
use Rattle.grammar_syntax.specs.declared.token.TokenKind.TheVariants.{Unless, Principal, Action, Resource, Context}
use Rattle.grammar_syntax.specs.declared.token.TokenKind.TheVariants.{PrincipalSlot, ResourceSlot, At, LParen, RParen}
use Rattle.grammar_syntax.specs.declared.token.TokenKind.TheVariants.{LBrace}
use Rattle.grammar_syntax.specs.declared.token.TokenKind.TheVariants.{RBrace, LBracket, RBracket, Comma, Semicolon}
use Rattle.grammar_syntax.specs.declared.token.TokenKind.TheVariants.{Colon}
use Rattle.grammar_syntax.specs.declared.token.TokenKind.TheVariants.{Colons, Dot, Equal, NotEqual, Less, LessEqual}
use Rattle.grammar_syntax.specs.declared.token.TokenKind.TheVariants.{Greater}
use Rattle.grammar_syntax.specs.declared.token.TokenKind.TheVariants.{GreaterEqual, And, Or, Plus, Minus, Star, Not}
use Rattle.grammar_syntax.specs.declared.token.Token.{Token}
use Rattle.grammar_syntax.specs.declared.piece.Piece.{Piece}
use Rattle.grammar_syntax.specs.declared.piece.Piece.TheVariants as piece
use Rattle.grammar_syntax.specs.declared.lex_fault.LexFault.{LexFault}
use Rattle.grammar_syntax.specs.declared.lex_fault.LexFault.TheVariants.{NoMemory, BadToken}

-- ## Tokens with one spelling

-- A `SpelledKind` is a spelling with the kind of token that it spells.
pub record SpelledKind : Type 0 where
  pub spelling : List ℕ
  pub kind : TokenKind

-- `entry s k` is the spelling `s` of the kind `k`.
abbrev entry : List ℕ → TokenKind → SpelledKind
entry s k = record { spelling = s; kind = k }

-- `entries ss ks` are the spellings `ss`, each with the kind at the same index of `ks`.
abbrev entries : List (List ℕ) → List TokenKind → List SpelledKind
entries [] ks = []
entries (s ∷ ss) [] = []
entries (s ∷ ss) (k ∷ ks) = entry s k ∷ entries ss ks

-- `reserved` are the reserved words with their kinds. They are not identifiers.
abbrev pub reserved : List SpelledKind
reserved = entries reserved_words (True ∷ False ∷ If ∷ Then ∷ Else ∷ In ∷ Is ∷ Like ∷ Has ∷ Cedar ∷ [])

-- `named` are the keywords that are identifiers too, with their kinds.
abbrev pub named : List SpelledKind
named = entry (codes "permit") Permit ∷ entry (codes "forbid") Forbid ∷ entry (codes "when") When
    ∷ entry (codes "unless") Unless ∷ entry (codes "principal") Principal ∷ entry (codes "action") Action
    ∷ entry (codes "resource") Resource ∷ entry (codes "context") Context ∷ []

-- `singles` are the punctuation marks of one byte, with their kinds.
abbrev pub singles : List SpelledKind
singles = entry (codes "@") At ∷ entry (codes "(") LParen ∷ entry (codes ")") RParen ∷ entry (codes "{") LBrace
    ∷ entry (codes "}") RBrace ∷ entry (codes "[") LBracket ∷ entry (codes "]") RBracket ∷ entry (codes ",") Comma
    ∷ entry (codes ";") Semicolon ∷ entry (codes ":") Colon ∷ entry (codes ".") Dot ∷ entry (codes "<") Less
    ∷ entry (codes ">") Greater ∷ entry (codes "+") Plus ∷ entry (codes "-") Minus ∷ entry (codes "*") Star
    ∷ entry (codes "!") Not ∷ []

-- `pairs` are the punctuation marks of two bytes, with their kinds.
abbrev pub pairs : List SpelledKind
pairs = entry (codes "::") Colons ∷ entry (codes "==") Equal ∷ entry (codes "!=") NotEqual
    ∷ entry (codes "<=") LessEqual ∷ entry (codes ">=") GreaterEqual ∷ entry (codes "&&") And ∷ entry (codes "||") Or
    ∷ []

-- `slots` are the slots of templates, with their kinds.
abbrev pub slots : List SpelledKind
slots = entry (codes "?principal") PrincipalSlot ∷ entry (codes "?resource") ResourceSlot ∷ []

-- `listed table w` is the kind of the spelling `w` in `table`, if it is there.
abbrev pub listed : List SpelledKind → List ℕ → Option TokenKind
listed [] w = None
listed (e ∷ table) w = if bytes_eq e.spelling w then Some e.kind else listed table w

-- ## Words and numbers

-- `or_else o other` is `o`, or `other` if `o` is `None`.
abbrev pub or_else : Option TokenKind → Option TokenKind → Option TokenKind
or_else None other = other
or_else (Some k) other = Some k

-- `or_ident k` is the kind `k`, or `Ident` for `None`.
abbrev pub or_ident : Option TokenKind → TokenKind
or_ident None = Ident
or_ident (Some k) = k

-- `kind_of_word w` is the kind of the word `w`: that of a reserved word or of a keyword, else `Ident`.
unfoldable pub kind_of_word : List ℕ → TokenKind
kind_of_word w = or_ident (or_else (listed reserved w) (listed named w))

-- `IsNumber w` holds if `w` is one or more digits.
abbrev pub IsNumber : List ℕ → Type 0
IsNumber [] = ⊥
IsNumber (c ∷ cs) = (is_digit c ≡ true) × AllAre is_digit cs

-- ## Strings
--
-- A string is a quote, then escapes and bytes that denote themselves, then a quote. The escapes are
--
-- \n  \r  \t  \\  \0  \'  \"    one character, with its meaning in `escapes`
-- \*                            a star, which is not a wildcard in a pattern
-- \x7F                          two hexadecimal digits, up to 7F: the character of that number
-- \u{10FFFF}                    one to six hexadecimal digits: the Unicode scalar value of that number

-- `quote` and `backslash` are the code points of `"` and `\`.
abbrev pub quote : ℕ
quote = code "\""

abbrev pub backslash : ℕ
backslash = code "\\"

-- `escapes` are the characters of the first form above, each with its meaning after a backslash.
abbrev pub escapes : List (ℕ × ℕ)
escapes = (code "n", code "\n") ∷ (code "r", code "\r") ∷ (code "t", code "\t") ∷ (code "\\", code "\\")
    ∷ (code "0", code "\0") ∷ (code "'", code "'") ∷ (code "\"", code "\"") ∷ []

-- `meant_in table c` is the meaning of the character `c` in `table`, if it is there.
abbrev pub meant_in : List (ℕ × ℕ) → ℕ → Option ℕ
meant_in [] c = None
meant_in ((d, meant) ∷ table) c = if nat_eq c d then Some meant else meant_in table c

-- `escaped c` is the meaning of the character `c` after a backslash, if `escapes` has it.
abbrev pub escaped : ℕ → Option ℕ
escaped c = meant_in escapes c

-- `is_hex c` tests whether the byte `c` is a hexadecimal digit, of either case.
unfoldable pub is_hex : ℕ → Bool
is_hex c = nat_lt (digit_value c) 16

-- `hex_after n ds` is the number whose hexadecimal digits are those of `n`, followed by `ds`.
abbrev pub hex_after : ℕ → List ℕ → ℕ
hex_after n [] = n
hex_after n (d ∷ ds) = hex_after (n * 16 + digit_value d) ds

-- `IsEscape p w` holds if the bytes `w` are an escape, of one of the four forms above, with the meaning `p`.
pub data IsEscape : Piece → List ℕ → Type 0 where
  letter : {p : Piece} {w : List ℕ} (c meant : ℕ) → escaped c ≡ Some meant → w ≡ backslash ∷ c ∷ []
      → p ≡ piece.Char meant → IsEscape p w
  star : {p : Piece} {w : List ℕ} → w ≡ codes "\\*" → p ≡ piece.Star → IsEscape p w
  short : {p : Piece} {w : List ℕ} (high low : ℕ) → digit_value high < 8 → digit_value low < 16 →
      w ≡ codes "\\x" ++ high ∷ low ∷ [] → p ≡ piece.Char (digit_value high * 16 + digit_value low)
      → IsEscape p w
  long : {p : Piece} {w : List ℕ} (digits : List ℕ) → 1 ≤ length digits → length digits ≤ 6 → AllAre is_hex digits
      → IsScalar (hex_after 0 digits) →
      w ≡ codes "\\u{" ++ (digits ++ codes "}") → p ≡ piece.Char (hex_after 0 digits) → IsEscape p w

-- `IsBody ps w` holds if the bytes `w` between two quotes are the pieces `ps`: bytes that denote themselves, and
-- escapes.
pub data IsBody : List Piece → List ℕ → Type 0 where
  done : IsBody [] []
  itself : {b : ℕ} {ps : List Piece} {w : List ℕ} → b ≢ quote → b ≢ backslash → IsBody ps w
      → IsBody (piece.Byte b ∷ ps) (b ∷ w)
  escape : {p : Piece} {ps : List Piece} {w : List ℕ} (e rest : List ℕ) → IsEscape p e → w ≡ e ++ rest → IsBody ps rest
      → IsBody (p ∷ ps) w

-- `is_star p` tests whether the piece `p` is the escape `\*`.
abbrev pub is_star : Piece → Bool
is_star (piece.Byte b) = false
is_star (piece.Char c) = false
is_star piece.Star = true

-- `has_star ps` tests whether any of the pieces `ps` is `\*`.
abbrev pub has_star : List Piece → Bool
has_star [] = false
has_star (p ∷ ps) = is_star p || has_star ps

-- `kind_of_pieces ps` is the kind of a string with the pieces `ps`: `StarText` if any of them is `\*`, since such a
-- string may only be a pattern; else `Text`.
abbrev pub kind_of_pieces : List Piece → TokenKind
kind_of_pieces ps = if has_star ps then StarText else Text

-- ## Tokens

-- `IsToken k w` holds if the bytes `w` spell a token of kind `k`.
pub data IsToken : TokenKind → List ℕ → Type 0 where
  word : {k : TokenKind} {w : List ℕ} → IsWord w → k ≡ kind_of_word w → IsToken k w
  number : {k : TokenKind} {w : List ℕ} → IsNumber w → k ≡ Number → IsToken k w
  quoted : {k : TokenKind} {w : List ℕ} (ps : List Piece) (body : List ℕ) → IsBody ps body
      → w ≡ quote ∷ body ++ quote ∷ []
      → k ≡ kind_of_pieces ps → IsToken k w
  single : {k : TokenKind} {w : List ℕ} → listed singles w ≡ Some k → IsToken k w
  pair : {k : TokenKind} {w : List ℕ} → listed pairs w ≡ Some k → IsToken k w
  slot : {k : TokenKind} {w : List ℕ} → listed slots w ≡ Some k → IsToken k w

-- `IsLongest k w rest` holds if `w` is a token of kind `k`, and the text `w` followed by `rest` does not begin with a
-- longer token.
pub record IsLongest (k : TokenKind) (w rest : List ℕ) : Type 0 where
  pub is : IsToken k w
  pub longest : (j : TokenKind) (v more : List ℕ) → IsToken j v → w ++ rest ≡ v ++ more → length v ≤ length w

-- `NoToken text` holds if `text` does not begin with a token.
abbrev pub NoToken : List ℕ → Type 0
NoToken text = (k : TokenKind) (w more : List ℕ) → IsToken k w → text ≡ w ++ more → ⊥

-- ## Whitespace and comments

-- `in_line c` tests whether `c` is neither a line feed nor a carriage return.
unfoldable pub in_line : ℕ → Bool
in_line c = not ((c == code "\n") || (c == code "\r"))

-- `EndsLine text` holds if `text` is empty or begins with the end of a line.
abbrev pub EndsLine : List ℕ → Type 0
EndsLine [] = Unit {0}
EndsLine (c ∷ cs) = in_line c ≡ false

-- `IsGap w rest` holds if `w` is a whitespace character, or a comment after which the text `rest` is empty or begins
-- with a line end.
pub data IsGap : List ℕ → List ℕ → Type 0 where
  blank : {w rest : List ℕ} (c : ℕ) → is_whitespace c ≡ true → w ≡ encode_utf8 c → IsGap w rest
  comment : {w rest : List ℕ} (said : List ℕ) → AllAre in_line said → EndsLine rest → w ≡ codes "//" ++ said
      → IsGap w rest

-- `NoGap text` holds if `text` begins with neither whitespace nor a comment.
abbrev pub NoGap : List ℕ → Type 0
NoGap text = (w rest : List ℕ) → IsGap w rest → text ≡ w ++ rest → ⊥

-- ## Texts

-- `Lex at text ts to left` holds if `text` is a concatenation of whitespace, comments and the tokens `ts`, followed by
-- `left`. `text` begins at offset `at`, and `left` at offset `to`. Each token is the longest that starts at its offset.
pub data Lex : ℕ → List ℕ → List Token → ℕ → List ℕ → Type 0 where
  finish : {at : ℕ} {text : List ℕ} → Lex at text [] at text
  gap : {at to : ℕ} {text left : List ℕ} {ts : List Token} (w rest : List ℕ) → text ≡ w ++ rest → IsGap w rest →
      Lex (at + length w) rest ts to left → Lex at text ts to left
  token : {at to : ℕ} {text left : List ℕ} {ts : List Token} (k : TokenKind) (w rest : List ℕ) → text ≡ w ++ rest
      → IsLongest k w rest →
      Lex (at + length w) rest ts to left
      → Lex at text (record { kind = k; start = at; end = at + length w } ∷ ts) to left

-- `IsLexed text ts` holds if `ts` are the tokens of `text`.
abbrev pub IsLexed : List ℕ → List Token → Type 0
IsLexed text ts = (to : ℕ) × Lex 0 text ts to []

-- `IsBadAt text at` holds if `text` up to offset `at` is a concatenation of whitespace, comments and tokens (`Lex`),
-- and none of these starts at `at`. The offset `at` is not the end of `text`.
pub record IsBadAt (text : List ℕ) (at : ℕ) : Type 0 where
  pub tokens : List Token
  pub here : ℕ
  pub rest : List ℕ
  pub before : Lex 0 text tokens at (here ∷ rest)
  pub no_gap : NoGap (here ∷ rest)
  pub no_token : NoToken (here ∷ rest)

-- `IsFault f text` holds if `f` is the error of `text`. `NoMemory` may be returned for any text.
abbrev pub IsFault : LexFault → List ℕ → Type 0
IsFault NoMemory text = Unit {0}
IsFault (BadToken at) text = IsBadAt text at

-- ## The text of a token

-- `spelling_of text t` is the part of `text` from the start of the token `t` up to its end.
abbrev pub spelling_of : List ℕ → Token → List ℕ
spelling_of text t = take (t.end - t.start) (drop t.start text)

-- `IsSpelledIn text t` holds if the bytes of `text` from the start of `t` up to its end spell a token of the kind of
-- `t`, and both offsets are boundaries of characters.
pub record IsSpelledIn (text : List ℕ) (t : Token) : Type 0 where
  pub nonempty : t.start < t.end
  pub within : t.end ≤ length text
  pub is : IsToken t.kind (spelling_of text t)
  pub start_cut : IsCharBoundary text t.start
  pub end_cut : IsCharBoundary text t.end

-- `AreInOrder at ts` holds if the first of the tokens `ts` starts at or after offset `at`, and each other token starts
-- at or after the end of the one before it.
abbrev pub AreInOrder : ℕ → List Token → Type 0
AreInOrder at [] = Unit {0}
AreInOrder at (t ∷ ts) = (at ≤ t.start) × AreInOrder t.end ts

-- ## Theorems

-- `OneLexing`: a text has at most one list of tokens.
abbrev pub OneLexing : Type 0
OneLexing = (text : List ℕ) (ts us : List Token) → IsLexed text ts → IsLexed text us → ts ≡ us

-- `BadIsNotLexed`: a text that is bad at an offset has no list of tokens.
abbrev pub BadIsNotLexed : Type 0
BadIsNotLexed = (text : List ℕ) (at : ℕ) (ts : List Token) → IsBadAt text at → IsLexed text ts → ⊥

-- `OneBadPlace`: a text is bad at one offset at most.
abbrev pub OneBadPlace : Type 0
OneBadPlace = (text : List ℕ) (at other : ℕ) → IsBadAt text at → IsBadAt text other → at ≡ other

-- `EachIsLexedOrBad`: each text has a list of tokens, or is bad at an offset.
abbrev pub EachIsLexedOrBad : Type 0
EachIsLexedOrBad = (text : List ℕ) → ((ts : List Token) × IsLexed text ts) ⊎ ((at : ℕ) × IsBadAt text at)

-- `EachIsSpelled`: the text of each token spells a token of its kind.
abbrev pub EachIsSpelled : Type 0
EachIsSpelled = (text : List ℕ) (ts : List Token) → IsLexed text ts
    → AllByRecursion (λ t. IsToken t.kind (spelling_of text t)) ts
