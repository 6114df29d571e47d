-- Defines what a command with the option `--explain` does: it runs as without the option and then, if texts are
-- rejected, explains them on standard error.
-- Source: docs/operating.md, "Find out why a text is rejected".
-- Rules of this product: the command's own report comes first, and its status is unchanged; then come the lines that
-- `explain` prints for the same files. If `explain` rejects nothing in them, the rejected message is explained, with
-- the name of its file; if no message is rejected, the reported code is explained. If nothing is rejected, the option
-- changes nothing. If an explanation cannot be allocated, a line says so in its place.
use Rattle.std.specs.Prelude.{◌≡◌, ◌⊎◌, ℕ, ◌==◌, if◌then◌else◌, Bool, true, false, List, [], ◌∷◌, ◌++◌, codes}
use Rattle.std.specs.Prelude.{Option, None, Some, unwrap_or}
use Rattle.explanations.specs.CodeText.{Texts, code_text, words_on}
use Rattle.explanations.specs.Codes.{is_code}
use Rattle.explanations.specs.Files.{File, Files}
use Rattle.explanations.specs.TextParts.{IsMessageExplained}
use Rattle.explanations.specs.FileExplanations.{IsExplained}
use Rattle.program_drills.specs.answer_lines.declared.refusal.Refusal.{Refusal}
use Rattle.program_drills.specs.answer_lines.Refusals.{no_memory}
use Rattle.program.specs.declared.device.Stream.TheVariants.{Faults}
use Rattle.program.specs.Events.{Event, wrote}
use Rattle.program.specs.Reports.{ended, IsAnswerReported, IsRefusalReported, IsMemoryReported}
use Rattle.program.specs.Courses.{Course, IsRefusedFor}
use Rattle.program.specs.ExplainCommand.{IsWithoutEnd}

-- `file_with_content name text` is the file with the name `name` and the content `text`.
abbrev pub file_with_content : List ℕ → List ℕ → File
file_with_content name text = record { name = name; text = text }

-- `policies_of file` is the file of policies `file`; if it is absent, an empty file with an empty name.
abbrev pub policies_of : Option File → File
policies_of file = unwrap_or file (file_with_content [] [])

-- `schema_files name schema` are the files for the explanation of a rejected schema or message: the schema alone, with
-- the file name `name` and the content `schema`.
abbrev pub schema_files : List ℕ → List ℕ → Files
schema_files name schema = record {
  schema = Some (file_with_content name schema);
  policies = policies_of None;
  entities = None;
  request = None;
}

-- ---- texts

-- `IsCodeText code text` holds if `text` is the text on the code `code`; it is empty if there is no such code.
abbrev pub IsCodeText : ℕ → List ℕ → Type 0
IsCodeText code text = ((words : Texts) × (words_on code ≡ Some words) × (text ≡ code_text words))
    ⊎ ((is_code code ≡ false) × (text ≡ []))

-- `IsThatOr Other first text` holds if `text` is `first`, which is not empty; or if `first` is empty, and `Other` holds
-- for `text`.
abbrev pub IsThatOr : (List ℕ → Type 0) → List ℕ → List ℕ → Type 0
IsThatOr Other [] text = Other text
IsThatOr Other (byte ∷ bytes) text = text ≡ byte ∷ bytes

-- `rejected_file message code` is the file `message` of a message that was given, unless the error with this code is
-- out of memory (1), which is no error of the message.
abbrev pub rejected_file : Option (List ℕ) → ℕ → Option (List ℕ)
rejected_file message code = if code == 1 then None else message

-- `IsTextIn file refusal text` holds if `text` explains `refusal` as the error of the message in `file` or, without a
-- file, by the text on its code.
abbrev pub IsTextIn : Option (List ℕ) → Refusal → List ℕ → Type 0
IsTextIn None refusal text = IsCodeText refusal.code text
IsTextIn (Some file) refusal text = IsMessageExplained file refusal text

-- `IsErrorText message refusal text` holds if `text` explains `refusal`, where the file `message`, if there is one, has
-- the message that may be rejected.
abbrev pub IsErrorText : Option (List ℕ) → Refusal → List ℕ → Type 0
IsErrorText message refusal text = IsTextIn (rejected_file message refusal.code) refusal text

-- `IsRefusalText files message refusal text` holds if `text` explains what is rejected in `files` or, if nothing is,
-- `refusal` (`IsErrorText message refusal`).
abbrev pub IsRefusalText : Files → Option (List ℕ) → Refusal → List ℕ → Type 0
IsRefusalText files message refusal text =
    (first : List ℕ) × IsExplained files first × IsThatOr (IsErrorText message refusal) first text

-- ---- what a run does

module _ {L G N : Type 0} where
  -- `IsLineWritten line events` holds if `events` are one event, which writes `line` to standard error, whether or not
  -- the stream accepts it.
  abbrev pub IsLineWritten : List ℕ → List (Event L G N) → Type 0
  IsLineWritten line events = (done : Bool) × (events ≡ wrote Faults (ended line) done ∷ [])

  -- `AreLinesWritten lines events` holds if `events` write `lines` to standard error; there is no event if `lines` are
  -- empty.
  abbrev pub AreLinesWritten : List ℕ → List (Event L G N) → Type 0
  AreLinesWritten [] events = events ≡ []
  AreLinesWritten (byte ∷ lines) events = IsLineWritten (byte ∷ lines) events

  -- `IsTextWritten text events` holds if `events` write the lines of `text` to standard error.
  abbrev pub IsTextWritten : List ℕ → List (Event L G N) → Type 0
  IsTextWritten text events = (lines : List ℕ) × IsWithoutEnd text lines × AreLinesWritten lines events

  -- `IsExplanationWritten Is events` holds if `events` write to standard error a text for which `Is` holds, or the line
  -- which says that it cannot be allocated.
  abbrev pub IsExplanationWritten : (List ℕ → Type 0) → List (Event L G N) → Type 0
  IsExplanationWritten Is events =
      ((text : List ℕ) × Is text × IsTextWritten text events)
      ⊎ IsLineWritten (codes "explanation: out of memory") events

  -- `Explains wanted Is course` is `course`, followed, if `wanted`, by a text on standard error for which `Is` holds.
  -- The status is that of `course`.
  abbrev pub Explains : Bool → (List ℕ → Type 0) → Course L G N → Course L G N
  Explains false Is course events end = course events end
  Explains true Is course events end = (first behind : List (Event L G N)) × course first end
      × IsExplanationWritten Is behind × (events ≡ first ++ behind)

  -- `IsErrorReported refusal`: the error `refusal`, or out of memory, is reported.
  abbrev pub IsErrorReported : Refusal → Course L G N
  IsErrorReported refusal events end = IsRefusalReported refusal events end ⊎ IsMemoryReported events end

  -- `IsErrorThenText wanted Is Refused`: an error for which `Refused` holds, or out of memory, is reported. If
  -- `wanted`, a text for which `Is` holds with the error is then written to standard error.
  abbrev pub IsErrorThenText : Bool → (Refusal → List ℕ → Type 0) → (Refusal → Type 0) → Course L G N
  IsErrorThenText false Is Refused events end = IsRefusedFor Refused events end
  IsErrorThenText true Is Refused events end = (refusal : Refusal) × ((refusal ≡ no_memory) ⊎ Refused refusal)
      × Explains true (Is refusal) (IsErrorReported refusal) events end

  -- `IsLineOrErrorThenText wanted Is Decided Refused`: a line for which `Decided` holds is printed, or an error is
  -- reported as by `IsErrorThenText wanted Is Refused`.
  abbrev pub IsLineOrErrorThenText : Bool → (Refusal → List ℕ → Type 0) → (List ℕ → Type 0) → (Refusal → Type 0)
      → Course L G N
  IsLineOrErrorThenText wanted Is Decided Refused events end =
      ((line : List ℕ) × Decided line × IsAnswerReported line events end)
      ⊎ IsErrorThenText wanted Is Refused events end

  -- `IsErrorExplained wanted files Refused`: an error for which `Refused` holds, or out of memory, is reported. If
  -- `wanted`, what is rejected in `files` is then explained or, if nothing is, the code of the error.
  abbrev pub IsErrorExplained : Bool → Files → (Refusal → Type 0) → Course L G N
  IsErrorExplained wanted files Refused = IsErrorThenText wanted (IsRefusalText files None) Refused

  -- `IsLineOrErrorExplained wanted files Decided Refused`: a line for which `Decided` holds is printed, or an error is
  -- reported as by `IsErrorExplained wanted files Refused`.
  abbrev pub IsLineOrErrorExplained : Bool → Files → (List ℕ → Type 0) → (Refusal → Type 0) → Course L G N
  IsLineOrErrorExplained wanted files Decided Refused =
      IsLineOrErrorThenText wanted (IsRefusalText files None) Decided Refused
