-- Defines the excerpt that shows a place of a text.
-- Rules of this product: three rows: the position, the numbered line, and carets under the marked characters.
-- Characters that a terminal may obey are shown as U+FFFD; of a line of more than 160 characters a part of 160 around
-- the place is shown, with `..` at a cut end.
use Rattle.std.specs.Prelude.{ℕ, ◌+◌, ◌-◌, ◌==◌, nat_le, nat_lt, min, max, Bool, not, ◌||◌, ◌&&◌, if◌then◌else◌}
use Rattle.std.specs.Prelude.{List, [], ◌∷◌, ◌++◌, length, take, drop, map, replicate, codes, decimal}
use Rattle.std.specs.Prelude.{chars, encode_utf8_all}
use lib.Utf8.{scalar}

-- `is_control c` tests for control characters except the tab: U+0000 to U+001F, and U+007F (DEL) to U+009F.
abbrev pub is_control : ℕ → Bool
is_control c = nat_le c 8 || (nat_le 10 c && nat_le c 31) || (nat_le 127 c && nat_le c 159)

-- `is_bidi_control c` tests for characters that change the direction of writing: those with Unicode's property
-- Bidi_Control.
abbrev pub is_bidi_control : ℕ → Bool
is_bidi_control c = (c == 0x061C) || (nat_le 0x200E c && nat_le c 0x200F) || (nat_le 0x202A c && nat_le c 0x202E)
    || (nat_le 0x2066 c && nat_le c 0x2069)

-- `is_hidden c` tests for these characters, and for numbers that are not characters (Unicode scalar values), which no
-- text contains.
abbrev pub is_hidden : ℕ → Bool
is_hidden c = not (scalar c) || (is_control c || is_bidi_control c)

-- `shown_char c` is the character that is shown for `c`: U+FFFD if `c` is hidden.
abbrev pub shown_char : ℕ → ℕ
shown_char c = if is_hidden c then 0xFFFD else c

-- `blank_char c` is the blank that is as wide as `c`: a tab (9) for a tab, else a space (32).
abbrev pub blank_char : ℕ → ℕ
blank_char c = if c == 9 then 9 else 32

-- `repeated c n` are the bytes of `n` characters `c`.
abbrev pub repeated : ℕ → ℕ → List ℕ
repeated c n = encode_utf8_all (replicate n c)

-- `shown text skipped n` are the bytes that show `n` characters of `text`, after the first `skipped`;
-- `blanks text skipped n` are the bytes of blanks as wide as these characters.
abbrev pub shown : List ℕ → ℕ → ℕ → List ℕ
shown text skipped n = encode_utf8_all (map shown_char (take n (drop skipped (chars text))))

abbrev pub blanks : List ℕ → ℕ → ℕ → List ℕ
blanks text skipped n = encode_utf8_all (map blank_char (take n (drop skipped (chars text))))

-- Of a line of `n` characters at most 160 are shown. `place_in n column` is the number of characters before `column`,
-- at most `n`. `cut_before n place` is the number of characters that are cut before the shown part. That part begins 80
-- characters before the place, or with the line if there are fewer; it begins earlier if the line ends within 80
-- characters after the place. `end_of n cut` is the index at which that part ends. `carets_at end place span` is the
-- number of carets for `span` marked characters: none past `end`, but at least one.
abbrev pub place_in : ℕ → ℕ → ℕ
place_in n column = min (column - 1) n

abbrev pub cut_before : ℕ → ℕ → ℕ
cut_before n place = min (place - 80) (n - 160)

abbrev pub end_of : ℕ → ℕ → ℕ
end_of n cut = min n (cut + 160)

abbrev pub carets_at : ℕ → ℕ → ℕ → ℕ
carets_at end place span = max 1 (min span (end - place))

-- `mark_if is_cut mark` are the bytes `mark` if `is_cut` is true (something is cut), else no bytes.
abbrev pub mark_if : Bool → List ℕ → List ℕ
mark_if is_cut mark = if is_cut then mark else []

-- `heading file line column` is the row ` --> FILE:LINE:COLUMN`. Each row ends with a line feed (10).
abbrev pub heading : List ℕ → ℕ → ℕ → List ℕ
heading file line column = codes " --> " ++ encode_utf8_all (map shown_char (chars file)) ++ codes ":" ++ decimal line
    ++ codes ":" ++ decimal column ++ 10 ∷ []

-- `line_row number line cut end` is the row `NUMBER | LINE`, with the characters of `line` from the index `cut` up to
-- `end`, and `..` at each end where characters are cut.
abbrev pub line_row : ℕ → List ℕ → ℕ → ℕ → List ℕ
line_row number line cut end = decimal number ++ codes " | " ++ mark_if (nat_lt 0 cut) (codes "..")
    ++ shown line cut (end - cut) ++ mark_if (nat_lt end (length (chars line))) (codes "..") ++ 10 ∷ []

-- `caret_row digits line cut place carets` is the row of `digits` spaces (32), ` | `, two spaces under a `..`, blanks
-- as wide as the characters from `cut` up to `place`, and `carets` carets (94).
abbrev pub caret_row : ℕ → List ℕ → ℕ → ℕ → ℕ → List ℕ
caret_row digits line cut place carets = repeated 32 digits ++ codes " | "
    ++ mark_if (nat_lt 0 cut) (codes "  ") ++ blanks line cut (place - cut) ++ repeated 94 carets ++ 10 ∷ []

-- `excerpt file line number column span` are the three rows for a place at line `number` and `column`, with `span`
-- characters marked; `line` has the bytes of that line without its line end.
abbrev pub excerpt : List ℕ → List ℕ → ℕ → ℕ → ℕ → List ℕ
excerpt file line number column span =
    let n = length (chars line) in
    let place = place_in n column in
    let cut = cut_before n place in
    let end = end_of n cut in
    heading file number column ++ line_row number line cut end
    ++ caret_row (length (decimal number)) line cut place (carets_at end place span)
