-- Defines how the pieces of a string are read from its bytes, one after another, and proves that they are those of the
-- grammar of strings and their escapes. The functions here need no trust: the type of `string_meaning` states what must
-- hold of them.
use Prim.Native.Char.{code}
use Rattle.std.specs.Prelude.{◌==◌, if◌then◌else◌, drop, Option}
use Rattle.std.proofs.Common.{◌≡◌, ◌≢◌, ℕ, ◌+◌, ◌*◌, true, false, List, [], ◌∷◌, ◌++◌, refl, sym, ◌∙◌, ap}
use Rattle.std.proofs.Common.{append_assoc, Some, None, nat_eq, inl, inr}
use Rattle.std.proofs.lemmas.Bool.{cases_Bool, eqb-true}
use Rattle.std.specs.Char.{digit_value}
use Rattle.plain.specs.Words.{AllAre}
use Rattle.grammar_syntax.specs.declared.piece.Piece.{Piece}
use Rattle.grammar_syntax.specs.declared.piece.Piece.TheVariants as piece
use Rattle.grammar_syntax.specs.Lexing.{escaped, quote, backslash, is_hex, hex_after, IsEscape, letter}
use Rattle.grammar_syntax.specs.Lexing.{star, short}
use Rattle.grammar_syntax.specs.Lexing.{long, IsBody, done, itself, escape}
use Rattle.grammar_syntax.specs.Strings.{bytes_of, literals_of, IsStringOf, IsPatternOf}
use Rattle.grammar_desugaring.specs.StringMeaning.{StringMeaning}

-- A `Reading` is the state of the reader: between two pieces; after a backslash; after `\x`; after the first digit of
-- `\x`, with its value; after `\u`; or after `\u{` and some digits, with the number that they denote.
data Reading : Type 0 where
  between : Reading
  behind_backslash : Reading
  first_digit : Reading
  second_digit : ℕ → Reading
  brace : Reading
  digits : ℕ → Reading

-- `scalar_of o` is the character in `o`, or 0 if `o` is `None`.
abbrev scalar_of : Option ℕ → ℕ
scalar_of None = 0
scalar_of (Some c) = c

-- `read state w` are the pieces of `w` up to the closing quote, from the state `state` on.
abbrev read : Reading → List ℕ → List Piece
read _ [] = []
read between (b ∷ w) =
    if b == quote then [] else (if b == backslash then read behind_backslash w else piece.Byte b ∷ read between w)
read behind_backslash (c ∷ w) =
    if c == code "*" then piece.Star ∷ read between w
    else (if c == code "x" then read first_digit w
    else (if c == code "u" then read brace w else piece.Char (scalar_of (escaped c)) ∷ read between w))
read first_digit (c ∷ w) = read (second_digit (digit_value c)) w
read (second_digit high) (c ∷ w) = piece.Char (high * 16 + digit_value c) ∷ read between w
read brace (c ∷ w) = read (digits 0) w
read (digits n) (c ∷ w) =
    if c == code "}" then piece.Char n ∷ read between w else read (digits (n * 16 + digit_value c)) w

-- `pieces_of spelling` are the pieces of the string `spelling`, which is in its quotes.
abbrev pieces_of : List ℕ → List Piece
pieces_of spelling = read between (drop 1 spelling)

-- The lemmas from here on prove that the pieces of a string by the grammar are those that `pieces_of` gives.
unlisted : (b n meant : ℕ) → escaped b ≡ Some meant → escaped n ≡ None → nat_eq b n ≡ false
unlisted b n meant e f = elim (cases_Bool (nat_eq b n)) [
  | inl y ↦ let same = ap escaped (eqb-true b n y) in absurd (cc)
  | inr x ↦ x
]

differs : (b n : ℕ) → b ≢ n → nat_eq b n ≡ false
differs b n other = elim (cases_Bool (nat_eq b n)) [ inl y ↦ absurd (other (eqb-true b n y)) | inr x ↦ x ]

no_hex_brace : is_hex (code "}") ≡ true → ⊥
unfolding is_hex
no_hex_brace e = cc

letter_is : (c meant : ℕ) (w : List ℕ) → escaped c ≡ Some meant
    → read behind_backslash (c ∷ w) ≡ piece.Char meant ∷ read between w
letter_is c meant w is =
    rw (unlisted c (code "*") meant is refl, unlisted c (code "x") meant is refl, unlisted c (code "u") meant is refl)
    (ap (λ o. piece.Char (scalar_of o) ∷ read between w) is)

hex_read : (n : ℕ) (ds w : List ℕ) → AllAre is_hex ds
    → read (digits n) (ds ++ code "}" ∷ w) ≡ piece.Char (hex_after n ds) ∷ read between w
hex_read n [] w all = refl
hex_read n (d ∷ ds) w all =
    rw (differs d (code "}") (λ same. no_hex_brace (ap is_hex (sym same) ∙ all.0)))
    (hex_read (n * 16 + digit_value d) ds w all.1)

escape_read : (p : Piece) (e w : List ℕ) → IsEscape p e → read between (e ++ w) ≡ p ∷ read between w
escape_read p e w (letter c meant is spelled same) =
    ap (λ x. read between (x ++ w)) spelled ∙ letter_is c meant w is ∙ ap (λ q. q ∷ read between w) (sym same)
escape_read p e w (star spelled same) =
    ap (λ x. read between (x ++ w)) spelled ∙ ap (λ q. q ∷ read between w) (sym same)
escape_read p e w (short high low h l spelled same) =
    ap (λ x. read between (x ++ w)) spelled ∙ ap (λ q. q ∷ read between w) (sym same)
escape_read p e w (long ds one six all scalar spelled same) =
    ap (λ x. read between (x ++ w)) spelled ∙ ap (read (digits 0)) (append_assoc ds (code "}" ∷ []) w)
    ∙ hex_read 0 ds w all ∙ ap (λ q. q ∷ read between w) (sym same)

body_read : (ps : List Piece) (w : List ℕ) → IsBody ps w → read between (w ++ quote ∷ []) ≡ ps
body_read _ _ done = refl
body_read _ _ (itself {b} {ps} {w} no_quote no_backslash rest) =
    rw (differs b quote no_quote, differs b backslash no_backslash) (ap (λ r. piece.Byte b ∷ r) (body_read ps w rest))
body_read _ _ (escape {p} {ps} {w} e rest is spelled behind) =
    ap (λ x. read between (x ++ quote ∷ [])) spelled ∙ ap (read between) (append_assoc e rest (quote ∷ []))
    ∙ escape_read p e (rest ++ quote ∷ []) is ∙ ap (λ r. p ∷ r) (body_read ps rest behind)

value_is : (value spelling : List ℕ) → IsStringOf value spelling → value ≡ bytes_of (pieces_of spelling)
value_is value spelling is =
    is.value_is ∙ ap bytes_of (sym (ap pieces_of is.spelled ∙ body_read is.pieces is.body is.is))

pattern_is : (literals : List (List ℕ)) (spelling : List ℕ) → IsPatternOf literals spelling
    → literals ≡ literals_of (pieces_of spelling)
pattern_is literals spelling is =
    is.literals_are ∙ ap literals_of (sym (ap pieces_of is.spelled ∙ body_read is.pieces is.body is.is))

-- `string_meaning` gives a string the value and the literal texts of the pieces that are read.
pub string_meaning : StringMeaning
string_meaning = record {
  value = λ spelling. bytes_of (pieces_of spelling);
  pattern = λ spelling. literals_of (pieces_of spelling);
  value_is = value_is;
  pattern_is = pattern_is;
}
