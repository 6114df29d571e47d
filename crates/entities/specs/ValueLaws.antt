-- Defines the theorems about parsing values by a type.
use Rattle.std.specs.Prelude.{◌≡◌, ◌≤◌, ℕ, suc, List, false, Some, Ok}
use Rattle.serde_json.specs.Data.{Data, object, depth}
use Rattle.json_words.specs.Json.{json_of}
use Rattle.values.specs.Values.{PlainValue, fields_of}
use Rattle.values.specs.Fields.{Field}
use Rattle.schema_types.specs.Cedar.{Cedar, deep, IsTooLarge}
use Rattle.serde_json.specs.Read.{max_depth}
use Rattle.serde_json.specs.Written.{has_float}
use Rattle.entities.specs.Typing.{typed_value, record_in}
use Rattle.entities.specs.CanonicalValues.{value_json, fields_json}
use Rattle.entities.specs.ValueTexts.{text_typed}

-- `CanonicalValueIsRead`: the canonical JSON of a parsed value is parsed as the same value, by the same type.
abbrev pub CanonicalValueIsRead : Type 0
CanonicalValueIsRead = (t : Cedar) (d : Data) (v : PlainValue) → typed_value t d ≡ Ok v
    → typed_value t (value_json v) ≡ Ok v

-- `JsonIsReadAgain`: whatever bytes were parsed as `v`, a text of the canonical JSON of `v` is parsed as `v`, by the
-- same type.
abbrev pub JsonIsReadAgain : Type 0
JsonIsReadAgain = (t : Cedar) (bytes text : List ℕ) (v : PlainValue) → text_typed t bytes ≡ Ok v
    → json_of text ≡ Some (value_json v) → text_typed t text ≡ Ok v

-- `CanonicalValueNests`: the canonical JSON of a parsed value nests at most one level deeper than the value's type.
-- (The JSON of an entity or an extension value is two deep, its type one.)
abbrev pub CanonicalValueNests : Type 0
CanonicalValueNests = (t : Cedar) (d : Data) (v : PlainValue) → typed_value t d ≡ Ok v
    → depth (value_json v) ≤ suc (deep t)

-- `WrittenIsReadAgain`: let `v` be parsed from some bytes by a type `t` that is not too large for a schema. Let the
-- JSON of `text` be the canonical JSON of `v`, if the latter nests within the parser's limit. Then `text` is parsed as
-- `v` by `t`.
abbrev pub WrittenIsReadAgain : Type 0
WrittenIsReadAgain = (t : Cedar) (bytes text : List ℕ) (v : PlainValue) → (IsTooLarge t → ⊥)
    → text_typed t bytes ≡ Ok v → (depth (value_json v) ≤ max_depth → json_of text ≡ Some (value_json v))
    → text_typed t text ≡ Ok v

-- `RecordIsReadAgain`: the canonical JSON of a parsed record is parsed as the same record, by the same type.
abbrev pub RecordIsReadAgain : Type 0
RecordIsReadAgain = (t : Cedar) (d : Data) (fields : List Field) → record_in t d ≡ Ok fields
    → record_in t (object (fields_json (fields_of fields))) ≡ Ok fields

-- `RecordNests`: the canonical JSON of a parsed record nests at most one level deeper than the record's type.
abbrev pub RecordNests : Type 0
RecordNests = (t : Cedar) (d : Data) (fields : List Field) → record_in t d ≡ Ok fields
    → depth (object (fields_json (fields_of fields))) ≤ suc (deep t)

-- `NoFloatIsWritten`: the canonical JSON of a value has no float: its numbers are integers.
abbrev pub NoFloatIsWritten : Type 0
NoFloatIsWritten = (v : PlainValue) → has_float (value_json v) ≡ false
