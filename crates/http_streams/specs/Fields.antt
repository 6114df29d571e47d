-- Defines the meaning of the fields of a head.
-- Source: RFC 9110, sections 5.1, 5.6.1, 7.6.1 and 8.6.
use Prim.Native.Char.{code}
use Rattle.std.specs.Prelude.{ℕ, Bool, ◌&&◌, List, [], ◌∷◌, ◌++◌, length, map, if◌then◌else◌, ◌==◌, nat_lt}
use Rattle.std.specs.Prelude.{nat_le, codes, bytes_eq}
use Rattle.std.specs.List.{list_all, list_any, flat_map}
use Rattle.std.specs.Char.{is_ascii_digit, to_ascii_lowercase}
use Rattle.std.specs.Str.Parse.{digits_value}
use Rattle.httparse.specs.Grammar.{trim_ows}
use Rattle.http_streams.specs.declared.fields.Announced.{Announced}
use Rattle.http_streams.specs.declared.fields.Announced.TheVariants.{Size, TooLong, NoNumber}

-- A `Field` is the name and the value of a field.
abbrev pub Field : Type 0
Field = List ℕ × List ℕ

-- `is_named name p` tests whether the name of the field `p` in lower case is `name`.
abbrev pub is_named : List ℕ → Field → Bool
is_named name p = bytes_eq (map to_ascii_lowercase p.0) name

-- `values_named name ps` is the list of the values of those of the fields `ps` that have the name `name`, in order.
abbrev pub values_named : List ℕ → List Field → List (List ℕ)
values_named name ps = flat_map (λ p. if is_named name p then p.1 ∷ [] else []) ps

-- `is_digits v` tests whether `v` is one or more digits.
abbrev pub is_digits : List ℕ → Bool
is_digits v = nat_lt 0 (length v) && list_all is_ascii_digit v

-- `announced most v` is the length that the value `v` of a Content-Length announces: `TooLong` if it is over `most`,
-- `NoNumber` if `v` is not digits.
abbrev pub announced : ℕ → List ℕ → Announced
announced most v =
    if is_digits v then (if nat_le (digits_value 10 v) most then Size (digits_value 10 v) else TooLong) else NoNumber

-- `parts_after front bytes` is the list of the comma-separated parts of `front ++ bytes`, where `front` has no comma.
abbrev pub parts_after : List ℕ → List ℕ → List (List ℕ)
parts_after front [] = front ∷ []
parts_after front (b ∷ bytes) =
    if b == code "," then front ∷ parts_after [] bytes else parts_after (front ++ b ∷ []) bytes

-- `is_close_part text` tests whether `text` is `close` in any case, apart from whitespace at its ends.
abbrev pub is_close_part : List ℕ → Bool
is_close_part text = bytes_eq (map to_ascii_lowercase (trim_ows text)) (codes "close")

-- `lists_close value` tests whether any of the comma-separated parts of `value` is `close` (`is_close_part`).
abbrev pub lists_close : List ℕ → Bool
lists_close value = list_any is_close_part (parts_after [] value)

-- `is_close p` tests whether the field `p` asks to close the connection.
abbrev pub is_close : Field → Bool
is_close p = is_named (codes "connection") p && lists_close p.1
