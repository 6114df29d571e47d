-- Defines errors of inputs: their codes and places, and their output line.
-- Rules of this product: the codes, the places and the line.
use Rattle.std.specs.Prelude.{◌==◌, ℕ, List, Option, Some, None, option_map, if◌then◌else◌, codes}
use Rattle.serde_json.specs.Data.{Data, null, number, object, unsigned, no_members, member}
use Rattle.serde_json.specs.Written.{compact_text}
use Rattle.answer_lines.specs.declared.place.Place.{Place}
use Rattle.answer_lines.specs.declared.place.Place.TheVariants.{Byte, Index, Taken}
use Rattle.answer_lines.specs.declared.refusal.Refusal.{Refusal}

-- `number_of p` is the number of the place `p`: an offset, an index or a count.
abbrev pub number_of : Place → ℕ
number_of (Byte n) = n
number_of (Index n) = n
number_of (Taken n) = n

-- `number_in o` is the number of the place in `o`, if there is one.
abbrev pub number_in : Option Place → Option ℕ
number_in = option_map number_of

-- `no_memory` is the error of a failed allocation, code 1.
abbrev pub no_memory : Refusal
no_memory = record { code = 1; place = None; within = None }

-- `bad_shape index` is the error of a text that is not JSON of the demanded form, or of an entity whose uid an earlier
-- one has, code 30. `index` is that of the rejected entity in its array, or of the rejected line in its script; `None`
-- if the whole text is rejected.
abbrev pub bad_shape : Option ℕ → Refusal
bad_shape index = record { code = 30; place = option_map Index index; within = None }

-- `error_placed_at index r` is the error `r` with the index `index` as its place; an error with code 1 (out of memory)
-- is unchanged.
abbrev pub error_placed_at : ℕ → Refusal → Refusal
error_placed_at index r =
    if r.code == 1 then r else record { code = r.code; place = Some (Index index); within = r.within }

-- `number_or_null o` is the JSON of the number in `o`, or null if `o` is `None`.
abbrev pub number_or_null : Option ℕ → Data
number_or_null None = null
number_or_null (Some n) = number (unsigned n)

-- `parts_json code place within` is the JSON of an error with the code `code`, the number `place` of its place, and the
-- code `within` of its inner error. Each of the last two is null if the error has none.
abbrev pub parts_json : ℕ → Option ℕ → Option ℕ → Data
parts_json code place within = object (member (codes "error") (object
    (member (codes "code") (number (unsigned code))
    (member (codes "place") (number_or_null place)
    (member (codes "within") (number_or_null within) no_members)))) no_members)

-- `refusal_json r` is the JSON of the error `r`.
abbrev pub refusal_json : Refusal → Data
refusal_json r = parts_json r.code (number_in r.place) r.within

-- `error_line r` is the line of the error `r`, such as {"error":{"code":30,"place":0,"within":null}}.
unfoldable pub error_line : Refusal → List ℕ
error_line r = compact_text (refusal_json r)
