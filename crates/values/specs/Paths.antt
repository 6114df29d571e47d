-- Defines the Path that a list of words forms, and computable tests of whether a string is an identifier or a Path.
-- Source: Cedar reference guide 4.0, "Grammar specification for Cedar policy syntax", Path = Ident { "::" Ident },
-- without whitespace or comments.
use Prim.Native.Char.{code}
use Rattle.std.specs.Prelude.{◌↔◌, IsTrue, false, ℕ, List, [], ◌∷◌, ◌++◌, Bool, not, ◌==◌, ◌&&◌, if◌then◌else◌}
use Rattle.std.specs.List.{list_any, list_all}
use Rattle.std.specs.Str.{bytes_eq}
use Rattle.extensions.specs.plain.Words.{is_letter, is_word_byte, reserved_words, joined_path, IsIdent, IsPath}

-- `path_of words` is the words `words` joined by `::`, and the empty string if there are no words.
abbrev pub path_of : List (List ℕ) → List ℕ
path_of [] = []
path_of (first ∷ more) = joined_path first more

-- `is_word word` tests whether `word` is a letter or `_`, followed by letters, `_` and digits.
abbrev pub is_word : List ℕ → Bool
is_word [] = false
is_word (c ∷ cs) = is_letter c && list_all is_word_byte cs

-- `is_ident word` tests whether `word` is a word that is not reserved.
abbrev pub is_ident : List ℕ → Bool
is_ident word = is_word word && not (list_any (bytes_eq word) reserved_words)

-- `pieces word text` are the pieces into which the separators `::` cut `text`, with `word` prepended to the first.
unfoldable pub pieces : List ℕ → List ℕ → List (List ℕ)
pieces word [] = word ∷ []
pieces word (c ∷ []) = (word ++ c ∷ []) ∷ []
pieces word (c ∷ d ∷ rest) =
    if c == code ":" && d == code ":" then word ∷ pieces [] rest else pieces (word ++ c ∷ []) (d ∷ rest)

-- `is_path text` tests whether each of `pieces [] text`, the pieces of `text`, is an identifier.
unfoldable pub is_path : List ℕ → Bool
is_path text = list_all is_ident (pieces [] text)

-- `IdentTestIsExact`: `is_ident` accepts exactly the identifiers. `PathTestIsExact`: `is_path` accepts exactly the
-- Paths.
abbrev pub IdentTestIsExact : Type 0
IdentTestIsExact = (word : List ℕ) → IsTrue (is_ident word) ↔ IsIdent word

abbrev pub PathTestIsExact : Type 0
PathTestIsExact = (text : List ℕ) → IsTrue (is_path text) ↔ IsPath text
