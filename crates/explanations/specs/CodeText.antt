-- Defines the explanation of an error code.
-- Source: docs/codes.md, whose table is compared with the rows of src/table.rt.
-- Rules of this product: four lines: the code with its name, its meaning, an example, and what to do.
use Rattle.std.specs.Prelude.{ℕ, ◌==◌, nat_lt, if◌then◌else◌, List, ◌++◌, Option, map, codes, decimal}
use Rattle.std.specs.List.{find}
use Rattle.std.specs.Borrow.{Bor}
use Rattle.explanations.specs.declared.table.CodeWords.{CodeWords}
use Rattle.explanations.specs.declared.table.TheConstants.{ANY_CALL, POLICIES, SCHEMAS, ENTITIES}
use Rattle.explanations.specs.declared.table.TheConstants.{TYPES, MESSAGES, COMMANDS, HTTP}

-- `Texts` has the texts on an error code: its number and name, its meaning, an example, what an explanation of an error
-- with this code says first (ExplanationText.antt), and what to do.
pub record Texts : Type 0 where
  pub code : ℕ
  pub name : List ℕ
  pub meaning : List ℕ
  pub example : List ℕ
  pub says : List ℕ
  pub advice : List ℕ

-- `read_by text row` are the texts of `row`, where `text` gives the bytes of each part; `texts_of words` are those of
-- `words`, whose parts are strings.
abbrev pub read_by : {T : Type 0} → (T → List ℕ) → CodeWords T → Texts
read_by text row = record {
  code = row.code;
  name = text row.name;
  meaning = text row.meaning;
  example = text row.example;
  says = text row.says;
  advice = text row.advice;
}

abbrev pub texts_of : CodeWords (Bor (List ℕ)) → Texts
texts_of words = read_by (λ text. text.now) words

-- `rows_of_group c` are the rows of the group that would contain the code `c`. The rows are the constants of
-- src/table.rt: no definition repeats their texts.
unfoldable pub rows_of_group : ℕ → List Texts
rows_of_group c =
    if nat_lt c 10 then map (λ row. read_by (λ text. text.now) row) ANY_CALL
    else if nat_lt c 20 then map (λ row. read_by (λ text. text.now) row) POLICIES
    else if nat_lt c 30 then map (λ row. read_by (λ text. text.now) row) SCHEMAS
    else if nat_lt c 40 then map (λ row. read_by (λ text. text.now) row) ENTITIES
    else if nat_lt c 50 then map (λ row. read_by (λ text. text.now) row) TYPES
    else if nat_lt c 60 then map (λ row. read_by (λ text. text.now) row) MESSAGES
    else if nat_lt c 100 then map (λ row. read_by (λ text. text.now) row) COMMANDS
    else map (λ row. read_by (λ text. text.now) row) HTTP

-- `words_on code` are the texts of the row of `code`, if it has one.
abbrev pub words_on : ℕ → Option Texts
words_on code = find (λ row. row.code == code) (rows_of_group code)

-- `code_text texts` is the explanation of a code with these texts, without a line feed at the end.
abbrev pub code_text : Texts → List ℕ
code_text texts = decimal texts.code ++ codes ", " ++ texts.name ++ codes "\nmeans: " ++ texts.meaning
    ++ codes "\nexample: " ++ texts.example ++ codes "\nwhat to do: " ++ texts.advice
