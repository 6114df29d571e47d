-- Defines the hexadecimal digits of a number at each place value.
use Rattle.std.specs.Prelude.{ℕ, ◌/◌, ◌%◌, false, nat_le, List, [], ◌∷◌, if◌then◌else◌}
use Rattle.std.specs.Fmt.{digit_glyph}

-- `place_text place n` is the hexadecimal digit of `n` at the place value `place`, a power of sixteen; empty if `n` is
-- less than `place`.
abbrev pub place_text : ℕ → ℕ → List ℕ
place_text place n = if nat_le place n then digit_glyph false (n / place % 16) ∷ [] else []
