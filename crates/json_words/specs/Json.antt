-- Defines the JSON value of bytes, and the string at a key of an object.
-- Source: RFC 8259. Where the RFC leaves the choice to a parser, `read` of `serde_json` rejects arrays and objects
-- nested more than 127 deep, half of a surrogate pair in an escape, and a number too large for a double. Of a duplicate
-- key the last value counts.
use Rattle.std.specs.Prelude.{ℕ, List, Option, None, option_and_then, if◌then◌else◌}
use Rattle.std.specs.Str.{is_utf8}
use Rattle.serde_json.specs.Data.{Data}
use Rattle.serde_json.specs.Find.{get, as_str}
use Rattle.serde_json.specs.Read.{read}

-- `json_of bytes` is the JSON value of `bytes`; `None` if they are not UTF-8 (RFC 8259, section 8.1), or if `read`
-- rejects them.
unfoldable pub json_of : List ℕ → Option Data
json_of bytes = if is_utf8 bytes then read bytes else None

-- `text_at k d` is the string at the key `k` of `d`; `None` if `d` is not an object, or has no string at this key.
abbrev pub text_at : List ℕ → Data → Option (List ℕ)
text_at k d = option_and_then as_str (get k d)
