-- Defines the lesser of two optional offsets.
use Rattle.std.specs.Prelude.{ℕ, min, Option, Some, None}

-- `lesser_of a b` is the lesser of the offsets `a` and `b` that are present; `None` if neither is.
abbrev pub lesser_of : Option ℕ → Option ℕ → Option ℕ
lesser_of None other = other
lesser_of (Some a) None = Some a
lesser_of (Some a) (Some b) = Some (min a b)
