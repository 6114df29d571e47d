-- Defines the shorter of two waits.
-- Source: this crate's limits of time.
use Rattle.std.specs.Prelude.{ℕ, Option, None, Some, min}

-- `first_of_both one other` is the shorter of the waits that there are.
abbrev pub first_of_both : Option ℕ → Option ℕ → Option ℕ
first_of_both None other = other
first_of_both (Some a) None = Some a
first_of_both (Some a) (Some b) = Some (min a b)
