-- Defines parts of a text, and the texts that explain an error of a given code and place.
-- Rules of this product: an error in a part of a text is shown at that part, with a cause and a note, which may be
-- empty; the error of a whole file, or of an item in its array, is shown with the file's name and the item's index; the
-- error of a message, with the file's name, and with the entry at fault and the inner error if they are known.
use Rattle.std.specs.Prelude.{◌≡◌, ◌⊎◌, ℕ, List, [], ◌++◌, Option, None, Some, take, drop, codes, decimal}
use Rattle.std.specs.Str.{IsCharBoundary}
use Rattle.explanations.specs.declared.finding.SourceFinding.{SourceFinding}
use Rattle.explanations.specs.declared.finding.WholeFinding.{WholeFinding}
use Rattle.explanations.specs.ExplanationText.{IsSourceText, IsWholeText}
use Rattle.explanations.specs.CodeText.{Texts, words_on}
use Rattle.schema_decisions.specs.answer_lines.Refusals.{number_in}
use Rattle.schema_decisions.specs.answer_lines.declared.refusal.Refusal.{Refusal}

-- `IsPartOf text from to part` holds if `part` is the text between the bytes `from` and `to`, or empty if they are not
-- character boundaries of `text` in this order.
abbrev pub IsPartOf : List ℕ → ℕ → ℕ → List ℕ → Type 0
IsPartOf text from to part =
    (IsCharBoundary text to × IsCharBoundary (take to text) from × (part ≡ drop from (take to text)))
    ⊎ ((part ≡ []) × ((IsCharBoundary text to → ⊥) ⊎ (IsCharBoundary (take to text) from → ⊥)))

-- `IsSourceAt file text note code start end IsCause bytes` holds if `bytes` explain an error of this code in the part
-- of `text` between the bytes `start` and `end`, with a cause for which `IsCause` holds, with the note `note`, and
-- without a detail.
pub record IsSourceAt (file text note : List ℕ) (code start end : ℕ) (IsCause : List ℕ → Type 0) (bytes : List ℕ) :
    Type 0
  where
    pub finding : SourceFinding
    pub code_is : finding.code ≡ code
    pub start_is : finding.start ≡ start
    pub end_is : finding.end ≡ end
    pub cause_holds : IsCause finding.cause.now
    pub detail_is : finding.detail.now ≡ []
    pub note_is : finding.note.now ≡ note
    pub is_text : IsSourceText file text finding bytes

-- `IsNothing words` holds if `words` are empty.
abbrev pub IsNothing : List ℕ → Type 0
IsNothing words = words ≡ []

-- `IsWholeAt file code index IsDetail bytes` holds if `bytes` explain an error of this code, with a detail for which
-- `IsDetail` holds: the error of the item with this index in the array of `file`, or of the whole file if there is no
-- index.
pub record IsWholeAt (file : List ℕ) (code : ℕ) (index : Option ℕ) (IsDetail : List ℕ → Type 0) (bytes : List ℕ) :
    Type 0
  where
    pub finding : WholeFinding
    pub code_is : finding.code ≡ code
    pub index_is : finding.index ≡ index
    pub detail_holds : IsDetail finding.detail.now
    pub is_text : IsWholeText file finding bytes

-- `name_in texts` is the name of the code in `texts`; empty without texts.
abbrev pub name_in : Option Texts → List ℕ
name_in None = []
name_in (Some texts) = texts.name

-- `inner_words code` are the words on the inner error of this code: the code and its name. Without a code there are no
-- words.
abbrev pub inner_words : Option ℕ → List ℕ
inner_words None = []
inner_words (Some code) = codes ", error " ++ decimal code ++ codes ": " ++ name_in (words_on code)

-- `entry_words index code` are the words on the entry at fault of a message: its index, then the words on its own
-- (inner) error of this code. Without an index there are no words.
abbrev pub entry_words : Option ℕ → Option ℕ → List ℕ
entry_words None code = []
entry_words (Some index) code = codes "entry " ++ decimal index ++ codes " (from 0)" ++ inner_words code

-- `IsMessageExplained file refusal bytes` holds if `bytes` explain that the message in `file` is rejected with
-- `refusal`.
abbrev pub IsMessageExplained : List ℕ → Refusal → List ℕ → Type 0
IsMessageExplained file refusal bytes =
    IsWholeAt file refusal.code None (λ words. words ≡ entry_words (number_in refusal.place) refusal.within) bytes

-- `AppendsSome Is old new` holds if `new` is `old` followed by bytes for which `Is` holds.
abbrev pub AppendsSome : (List ℕ → Type 0) → List ℕ → List ℕ → Type 0
AppendsSome Is old new = (bytes : List ℕ) × Is bytes × (new ≡ old ++ bytes)
