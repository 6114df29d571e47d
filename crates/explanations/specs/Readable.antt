-- Defines readable texts, and the theorem that the explanation of an error, and the text on an error code, are
-- readable. A terminal shows such a text, and interprets no character of it as a command.
-- Rules of this product: an explanation contains no control character except tabs and line feeds, and no character that
-- changes the direction of writing.
use Rattle.std.specs.Prelude.{◌≡◌, ℕ, ◌==◌, Bool, true, not, ◌||◌, List, Some, encode_utf8_all}
use Rattle.std.specs.List.{list_all}
use Rattle.std.specs.Str.{all_scalars}
use Rattle.explanations.specs.CodeText.{Texts, words_on, code_text}
use Rattle.explanations.specs.Excerpt.{is_hidden}
use Rattle.explanations.specs.declared.finding.SourceFinding.{SourceFinding}
use Rattle.explanations.specs.declared.finding.WholeFinding.{WholeFinding}
use Rattle.explanations.specs.ExplanationText.{IsSourceText, IsWholeText}

-- `is_shown c` tests for a character that is not hidden, or a line feed.
abbrev pub is_shown : ℕ → Bool
is_shown c = not (is_hidden c) || (c == 10)

-- `IsReadable bytes` holds if `bytes` are the UTF-8 of characters `cs` (Unicode scalar values) that pass `is_shown`.
abbrev pub IsReadable : List ℕ → Type 0
IsReadable bytes =
    (cs : List ℕ) × (all_scalars cs ≡ true) × (list_all is_shown cs ≡ true) × (bytes ≡ encode_utf8_all cs)

-- `ExplanationsAreReadable` states that each explanation of an error is readable, whatever the file, its name and its
-- content, and so is the explanation of each error code.
abbrev pub ExplanationsAreReadable : Type 0
ExplanationsAreReadable =
    ((file text : List ℕ) (finding : SourceFinding) (bytes : List ℕ) → IsSourceText file text finding bytes
    → IsReadable bytes)
    × ((file : List ℕ) (finding : WholeFinding) (bytes : List ℕ) → IsWholeText file finding bytes → IsReadable bytes)
    × ((code : ℕ) (texts : Texts) → words_on code ≡ Some texts → IsReadable (code_text texts))
