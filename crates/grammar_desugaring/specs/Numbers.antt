-- Defines the numbers that digits denote, with and without a minus before them.
-- Source: Cedar reference guide 4.0, "Data types: Long": whole numbers of signed 64 bits.
use Prim.Native.Char.{code}
use Rattle.std.specs.Prelude.{ℕ, Bool, ◌+◌, ◌-◌, ◌*◌, ◌^◌, ℤ, pos, neg_ℤ, List, if◌then◌else◌, nat_lt, nat_le}
use Rattle.std.specs.List.{fold}

-- `written digits` is the number that `digits` denote.
abbrev pub written : List ℕ → ℕ
written digits = fold (λ n digit. 10 * n + (digit - code "0")) 0 digits

-- `fits digits` and `fits_negated digits` test whether `written digits` is in the range of signed 64 bits by itself,
-- and after a minus.
abbrev pub fits : List ℕ → Bool
fits digits = nat_lt (written digits) (2 ^ 63)

abbrev pub fits_negated : List ℕ → Bool
fits_negated digits = nat_le (written digits) (2 ^ 63)

-- `positive digits` and `negative digits` are `written digits` by itself, and after a minus; 0 if the number is out of
-- range, which is an error.
abbrev pub positive : List ℕ → ℤ
positive digits = if fits digits then pos (written digits) else pos 0

abbrev pub negative : List ℕ → ℤ
negative digits = if fits_negated digits then neg_ℤ (pos (written digits)) else pos 0
