-- Defines the reading of keys that may be missing, where null counts as missing.
-- Source: Cedar reference guide 4.0, "Schema JSON format".
-- Rules of this product: null counts as missing.
use Rattle.std.specs.Prelude.{⊤, Bool, true, false, ℕ, List, Option, Some, None, Result, Ok}
use Rattle.serde_json.specs.Data.{Data, null, boolean, number, string, array, object}
use Rattle.serde_json.specs.Find.{get, as_bool, as_str}
use Rattle.json_words.specs.ReadsAs.{◌>>=◌, or_fault, demand}
use Rattle.schema_types.specs.declared.fault.SchemaFault.{SchemaFault}
use Rattle.schema_types.specs.declared.fault.SchemaFault.TheVariants.{BadShape}

-- `unless_null d` is `d`, or `None` if `d` is null.
abbrev pub unless_null : Data → Option Data
unless_null null = None
unless_null (boolean b) = Some (boolean b)
unless_null (number n) = Some (number n)
unless_null (string s) = Some (string s)
unless_null (array ds) = Some (array ds)
unless_null (object ms) = Some (object ms)

-- `present o` is the value in `o`, or `None` if it is missing or null.
abbrev pub present : Option Data → Option Data
present None = None
present (Some d) = unless_null d

-- `optional k d` is the value of `d` at the key `k`, or `None` if it is absent or null.
abbrev pub optional : List ℕ → Data → Option Data
optional k d = present (get k d)

-- `required_text k d` is the string of `d` at the key `k`, or `BadShape` if `d` has no string there.
abbrev pub required_text : List ℕ → Data → Result (List ℕ) SchemaFault
required_text k d = do
  found ← or_fault BadShape (get k d)
  or_fault BadShape (as_str found)

-- `truth_or b o` is the boolean in `o`, `b` if there is no value, or `BadShape` if the value is not a boolean.
abbrev pub truth_or : Bool → Option Data → Result Bool SchemaFault
truth_or b None = Ok b
truth_or b (Some d) = or_fault BadShape (as_bool d)

-- `is_false b` tests whether the boolean `b` is false.
abbrev pub is_false : Bool → Bool
is_false true = false
is_false false = true

-- `closed_in o` checks that a record allows no further attributes: `o`, the record's value at `additionalAttributes`,
-- is absent or false. Its error is `BadShape`.
abbrev pub closed_in : Option Data → Result ⊤ SchemaFault
closed_in o = do
  more ← truth_or false o
  demand BadShape (is_false more)
