-- Defines pieces of the lines that are bodies of replies.
use Rattle.std.specs.Prelude.{ℕ, List, ◌++◌, Bool, Option, Some, None, codes, decimal, if◌then◌else◌}

-- `boolean_word value` is the boolean `value` as JSON writes it, `true` or `false`.
abbrev pub boolean_word : Bool → List ℕ
boolean_word value = if value then codes "true" else codes "false"

-- `number_or_null o` is the number `o` in decimal digits, or `null` if it is absent.
abbrev pub number_or_null : Option ℕ → List ℕ
number_or_null None = codes "null"
number_or_null (Some n) = decimal n

-- `site_end site` is the end of a line with a stamp of the site `site`: ,"site":"00001"}
abbrev pub site_end : List ℕ → List ℕ
site_end site = codes ",\"site\":\"" ++ site ++ codes "\"}"
