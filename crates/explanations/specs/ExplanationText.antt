-- Defines the explanation of an error, for the author of the rejected text.
-- Rules of this product: a line with the code and what is wrong; the excerpt that shows the place, or the name of the
-- file with the index of the item in the file's array; what else is known; and a hint. Control characters except tabs,
-- and those that change the direction of writing, are shown as U+FFFD. A long cause, detail or line of the text is cut,
-- with `..` at the cut; the name of the file is not.
use Rattle.std.specs.Prelude.{◌≡◌, ℕ, ◌-◌, ◌==◌, if◌then◌else◌, true, List, [], ◌∷◌, ◌++◌}
use Rattle.std.specs.Prelude.{Option, None, Some}
use Rattle.std.specs.Prelude.{codes, decimal, take, chars, length, nat_lt}
use Rattle.explanations.specs.Printable.{are_printable}
use Rattle.explanations.specs.CodeText.{Texts, words_on}
use Rattle.explanations.specs.LineAndColumn.{line_after, column_after, line_of, IsStartAt}
use Rattle.explanations.specs.Excerpt.{excerpt, shown, mark_if}
use Rattle.explanations.specs.declared.places.TextPosition.{TextPosition}
use Rattle.explanations.specs.declared.finding.SourceFinding.{SourceFinding}
use Rattle.explanations.specs.declared.finding.WholeFinding.{WholeFinding}

-- `readable text most` are the bytes that show the first `most` characters of `text`.
abbrev pub readable : List ℕ → ℕ → List ℕ
readable text most = shown text 0 most

-- `cut_text text most` shows the first `most` characters of `text`, and `..` if it has more.
abbrev pub cut_text : List ℕ → ℕ → List ℕ
cut_text text most = readable text most ++ mark_if (nat_lt most (length (chars text))) (codes "..")

-- `framed before text most after` is `before`, `text` cut after `most` characters, and `after`; nothing if `text`
-- is empty.
abbrev pub framed : List ℕ → List ℕ → ℕ → List ℕ → List ℕ
framed before [] most after = []
framed before (c ∷ cs) most after = before ++ cut_text (c ∷ cs) most ++ after

-- `cause_words cause` is a space and `cause` in backticks, cut after 60 characters; nothing if `cause` is empty.
abbrev pub cause_words : List ℕ → List ℕ
cause_words cause = framed (codes " `") cause 60 (codes "`")

-- `says_line code says cause` is the line `error CODE: SAYS`, with `cause` in backticks at its end, unless `cause` is
-- empty.
abbrev pub says_line : ℕ → List ℕ → List ℕ → List ℕ
says_line code says cause = codes "error " ++ decimal code ++ codes ": " ++ says ++ cause_words cause ++ 10 ∷ []

-- `hint_line advice` is the line that says what to do.
abbrev pub hint_line : List ℕ → List ℕ
hint_line advice = codes "  hint: " ++ advice ++ 10 ∷ []

-- `detail_line detail` is the line of `detail`, cut after 400 characters; nothing if `detail` is empty.
abbrev pub detail_line : List ℕ → List ℕ
detail_line detail = framed (codes "  ") detail 400 (10 ∷ [])

-- `AreWordsOf words says advice` holds if `says` and `advice` are those of `words`, the texts on a code; or the two
-- fixed texts where `words` is `None`, as for a code that no error has.
abbrev pub AreWordsOf : Option Texts → List ℕ → List ℕ → Type 0
AreWordsOf None says advice = (says ≡ codes "rejected") × (advice ≡ codes "docs/codes.md has the codes")
AreWordsOf (Some words) says advice = (says ≡ words.says) × (advice ≡ words.advice)

-- `AreClean says advice` holds if `says` and `advice` are printable.
abbrev pub AreClean : List ℕ → List ℕ → Type 0
AreClean says advice = (are_printable says ≡ true) × (are_printable advice ≡ true)

-- ---- an error in a part of a text

-- `IsPlaceOf text at place` holds if `place` has the line and the column of the byte `at` of `text`, and the offset at
-- which the character that contains this byte begins.
pub record IsPlaceOf (text : List ℕ) (at : ℕ) (place : TextPosition) : Type 0 where
  pub start : IsStartAt text at place.start
  pub line : place.line ≡ line_after (chars (take place.start text))
  pub column : place.column ≡ column_after (chars (take place.start text))

-- `span_between place end` is the number of characters from `place` up to `end`; 2^64 - 1, the greatest number, if
-- `end` is on another line, so that the rest of the line is marked.
abbrev pub span_between : TextPosition → TextPosition → ℕ
span_between place end = if place.line == end.line then end.column - place.column else 18446744073709551615

-- `rest_text finding advice` has the lines after the excerpt: the detail, the note on the place, and the hint.
abbrev pub rest_text : SourceFinding → List ℕ → List ℕ
rest_text finding advice = detail_line finding.detail.now ++ detail_line finding.note.now ++ hint_line advice

-- `place_text file text place span` is the excerpt of `text` at `place`, with `span` characters marked.
abbrev pub place_text : List ℕ → List ℕ → TextPosition → ℕ → List ℕ
place_text file text place span = excerpt file (line_of text place.line) place.line place.column span

-- `source_text file text finding says advice place span` is the explanation: what is wrong, the excerpt at `place`, and
-- the lines after it.
abbrev pub source_text : List ℕ → List ℕ → SourceFinding → List ℕ → List ℕ → TextPosition → ℕ → List ℕ
source_text file text finding says advice place span = says_line finding.code says finding.cause.now
    ++ place_text file text place span ++ rest_text finding advice

-- `IsSourceText file text finding bytes` holds if `bytes` explain `finding` in `text`, the text of the file `file`, in
-- the words on its code.
pub record IsSourceText (file text : List ℕ) (finding : SourceFinding) (bytes : List ℕ) : Type 0 where
  pub says : List ℕ
  pub advice : List ℕ
  pub words : AreWordsOf (words_on finding.code) says advice
  pub clean : AreClean says advice
  pub place : TextPosition
  pub end : TextPosition
  pub begins : IsPlaceOf text finding.start place
  pub ends : IsPlaceOf text finding.end end
  pub is : bytes ≡ source_text file text finding says advice place (span_between place end)

-- ---- an error in a whole text, or in an item of an array

-- `index_words index` is `, entity INDEX (from 0)`; nothing if there is no index.
abbrev pub index_words : Option ℕ → List ℕ
index_words None = []
index_words (Some index) = codes ", entity " ++ decimal index ++ codes " (from 0)"

-- `file_line file index` is the line ` --> FILE, entity INDEX (from 0)`, without the part after FILE if there is no
-- index.
abbrev pub file_line : List ℕ → Option ℕ → List ℕ
file_line file index = codes " --> " ++ readable file (length file) ++ index_words index ++ 10 ∷ []

-- `whole_text file finding says advice` is the explanation: what is wrong, the file, the detail, and the hint.
abbrev pub whole_text : List ℕ → WholeFinding → List ℕ → List ℕ → List ℕ
whole_text file finding says advice = says_line finding.code says [] ++ file_line file finding.index
    ++ detail_line finding.detail.now ++ hint_line advice

-- `IsWholeText file finding bytes` holds if `bytes` explain `finding` in the file `file`, in the words on its code.
pub record IsWholeText (file : List ℕ) (finding : WholeFinding) (bytes : List ℕ) : Type 0 where
  pub says : List ℕ
  pub advice : List ℕ
  pub words : AreWordsOf (words_on finding.code) says advice
  pub clean : AreClean says advice
  pub is : bytes ≡ whole_text file finding says advice
