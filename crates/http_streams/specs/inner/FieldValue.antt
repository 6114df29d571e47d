-- Defines the result of searching a head for one field, and text without the whitespace at its end.
use Rattle.std.specs.Prelude.{◌≡◌, ℕ, ◌<◌, List, [], ◌∷◌, length, reverse}
use Rattle.httparse.specs.Grammar.{skip_ows}
use Rattle.http_streams.specs.declared.fields.FieldValue.{FieldValue}
use Rattle.http_streams.specs.declared.fields.FieldValue.TheVariants.{Absent, Once, Many}

-- `IsFieldValue found vs` holds if `found` describes the values `vs` correctly: no value, one, or several.
abbrev pub IsFieldValue : FieldValue → List (List ℕ) → Type 0
IsFieldValue Absent vs = vs ≡ []
IsFieldValue (Once v) vs = vs ≡ v.now ∷ []
IsFieldValue Many vs = 1 < length vs

-- `skip_ows_back text` is `text` without the whitespace at its end.
abbrev pub skip_ows_back : List ℕ → List ℕ
skip_ows_back text = reverse (skip_ows (reverse text))
