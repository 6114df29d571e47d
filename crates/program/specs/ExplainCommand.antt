-- Defines a run of `explain`, which explains a code, or what is rejected in files.
-- Source: docs/operating.md, "Find out why a text is rejected".
-- Rules of this product: an argument of digits alone is taken as a code; the text goes to standard output, and the run
-- ends with 1 if something is rejected, else with 0. A number that is not a code is an error of the command line.
use Rattle.std.specs.Prelude.{◌≡◌, ◌⊎◌, ◌<◌, ◌^◌, ◌==◌, ◌&&◌, not, nat_le, ℕ, Bool, true, false, List, ◌++◌}
use Rattle.std.specs.Prelude.{length, Option, None, Some, option_map, codes}
use Rattle.std.specs.List.{list_all}
use Rattle.std.specs.Str.Parse.{IsNumeral, digits_value, without_leading_plus}
use Rattle.explanations.specs.CodeText.{Texts, code_text, words_on}
use Rattle.explanations.specs.Codes.{is_code}
use Rattle.explanations.specs.Files.{File, Files}
use Rattle.explanations.specs.FileExplanations.{IsExplained}
use Rattle.program_lines.specs.declared.line.ExplainOptions.{ExplainOptions}
use Rattle.program.specs.declared.device.Stream.TheVariants.{Faults}
use Rattle.program.specs.Reports.{ended, IsReported, IsAnswerReported, IsMemoryReported, AreLinesReported}
use Rattle.program.specs.Courses.{Course, Reads, ReadsIfNamed}

-- `is_some_text text` tests whether `text` has a byte.
abbrev pub is_some_text : List ℕ → Bool
is_some_text text = not (length text == 0)

-- `is_decimal c` tests whether `c` is an ASCII digit (48 to 57).
abbrev pub is_decimal : ℕ → Bool
is_decimal c = nat_le 48 c && nat_le c 57

-- `is_number word` tests whether `word` is one or more ASCII digits.
abbrev pub is_number : List ℕ → Bool
is_number word = is_some_text word && list_all is_decimal word

-- `IsSmallNumeral word` holds if `word` is a number below 2^16, perhaps after a plus.
abbrev pub IsSmallNumeral : List ℕ → Type 0
IsSmallNumeral word = IsNumeral 10 (without_leading_plus word) × (digits_value 10 (without_leading_plus word) < 2 ^ 16)

-- `IsSmallNumber word n` holds if `word` is the number `n`, below 2^16, perhaps after a plus.
abbrev pub IsSmallNumber : List ℕ → ℕ → Type 0
IsSmallNumber word n = IsSmallNumeral word × (n ≡ digits_value 10 (without_leading_plus word))

-- `AreWordsOn word words` holds if `word` is a code, and `words` are the texts on it.
abbrev pub AreWordsOn : List ℕ → Texts → Type 0
AreWordsOn word words = (n : ℕ) × IsSmallNumber word n × (words_on n ≡ Some words)

-- `IsNoCode word` holds if `word` is not a code.
abbrev pub IsNoCode : List ℕ → Type 0
IsNoCode word = (n : ℕ) → IsSmallNumber word n → is_code n ≡ false

-- `file_named name text` is the file with the name `name` and the content `text`, if both are present.
abbrev pub file_named : Option (List ℕ) → Option (List ℕ) → Option File
file_named (Some name) (Some text) = Some (record { name = name; text = text })
file_named (Some name) None = None
file_named None text = None

-- `files_named options schema policies entities request` are the files that `options` name, with the contents `schema`,
-- `policies`, `entities` and `request`.
abbrev pub files_named : ExplainOptions → Option (List ℕ) → List ℕ → Option (List ℕ) → Option (List ℕ) → Files
files_named options schema policies entities request = record {
  schema = file_named (option_map (λ s. s.now) options.schema) schema;
  policies = record { name = options.what.now; text = policies };
  entities = file_named (option_map (λ s. s.now) options.entities) entities;
  request = file_named (option_map (λ s. s.now) options.request) request;
}

-- `IsWithoutEnd text line` holds if `line` is `text` without the line feed at the end of `text`, if there is one.
abbrev pub IsWithoutEnd : List ℕ → List ℕ → Type 0
IsWithoutEnd text line = (text ≡ ended line) ⊎ ((text ≡ line) × ((front : List ℕ) → text ≡ ended front → ⊥))

module _ {L G N : Type 0} where
  -- `IsCodeExplained word`: the text on the code `word` is printed, or it is reported that there is no such code
  -- (status 2), or out of memory is reported.
  abbrev pub IsCodeExplained : List ℕ → Course L G N
  IsCodeExplained word events end =
      ((words : Texts) × AreWordsOn word words × IsAnswerReported (code_text words) events end)
      ⊎ (IsNoCode word × IsReported Faults (codes "error: no code is " ++ word) 2 events end)
      ⊎ IsMemoryReported events end

  -- `AreTextsExplained files`: what is rejected in `files` is printed, and the run ends with 1 if anything is rejected,
  -- else with 0; or out of memory is reported.
  abbrev pub AreTextsExplained : Files → Course L G N
  AreTextsExplained files events end =
      ((text : List ℕ) × (line : List ℕ) × IsExplained files text × IsWithoutEnd text line
      × AreLinesReported line (is_some_text text) events end)
      ⊎ IsMemoryReported events end

  -- `AreFilesExplained options`: the files that `options` name are read in the order schema, policies, entities,
  -- request, and what is rejected in them is printed.
  abbrev pub AreFilesExplained : ExplainOptions → Course L G N
  AreFilesExplained options =
      ReadsIfNamed (option_map (λ s. s.now) options.schema) (λ schema.
      Reads options.what.now (λ policies.
      ReadsIfNamed (option_map (λ s. s.now) options.entities) (λ entities.
      ReadsIfNamed (option_map (λ s. s.now) options.request) (λ request.
      AreTextsExplained (files_named options schema policies entities request)))))

  -- `IsExplainedAs is_number options`: if `is_number`, the code that `options` name is explained, else what is rejected
  -- in the files that they name.
  abbrev pub IsExplainedAs : Bool → ExplainOptions → Course L G N
  IsExplainedAs true options = IsCodeExplained options.what.now
  IsExplainedAs false options = AreFilesExplained options

  -- `IsExplainRun options`: if the argument in `options` is a number, that code is explained, else what is rejected in
  -- files.
  abbrev pub IsExplainRun : ExplainOptions → Course L G N
  IsExplainRun options = IsExplainedAs (is_number options.what.now) options
