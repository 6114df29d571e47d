-- Defines the bodies of replies.
-- Source: RFC 8259; docs/formats.md, "Routes of a site".
-- Rules of this product: compact JSON with ascending keys, each of which is always present.
use Rattle.std.specs.Prelude.{ℕ, Bool, List, Option, codes}
use Rattle.serde_json.specs.Data.{Data, boolean, number, unsigned, string, object, no_members, member}
use Rattle.serde_json.specs.Written.{compact_text}
use Rattle.site.specs.stamped_store.declared.entry.Stamp.{Stamp}
use Rattle.answer_lines.specs.declared.place.Place.{Place}
use Rattle.answer_lines.specs.Refusals.{error_line}

-- `stamp_line s` is the line of the stamp `s`: {"count":2,"site":"00001"}
unfoldable pub stamp_line : Stamp → List ℕ
stamp_line s = compact_text (object
    (member (codes "count") (number (unsigned s.count))
    (member (codes "site") (string s.site) no_members)))

-- `put_line s impossible` is the line of a put of a policy with the stamp `s`, where `impossible` is whether the policy
-- is impossible: {"count":1,"impossible":true,"site":"00001"}
unfoldable pub put_line : Stamp → Bool → List ℕ
put_line s impossible = compact_text (object
    (member (codes "count") (number (unsigned s.count))
    (member (codes "impossible") (boolean impossible)
    (member (codes "site") (string s.site) no_members))))

-- `taken_line count` is the line with the number `count` of applied updates: {"taken":3}
unfoldable pub taken_line : ℕ → List ℕ
taken_line count = compact_text (object (member (codes "taken") (number (unsigned count)) no_members))

-- `found_json text s` is the text `text` of a policy with its stamp `s`, as JSON.
abbrev pub found_json : List ℕ → Stamp → Data
found_json text s = object
    (member (codes "count") (number (unsigned s.count))
    (member (codes "site") (string s.site)
    (member (codes "text") (string text) no_members)))

-- `found_line text s` is `found_json text s` as a line:
-- {"count":1,"site":"00001","text":"permit(principal, action, resource);"}
unfoldable pub found_line : List ℕ → Stamp → List ℕ
found_line text s = compact_text (found_json text s)

-- `fault_line code place within` is the line of an error with the code `code`, the place `place`, and the code `within`
-- of the inner error: {"error":{"code":30,"place":0,"within":null}}
abbrev pub fault_line : ℕ → Option Place → Option ℕ → List ℕ
fault_line code place within = error_line (record { code = code; place = place; within = within })
