-- Defines the earlier of two claims.
-- Source: this crate's limits of time.
use Rattle.std.specs.Prelude.{ℕ, Option, None, Some, if◌then◌else◌, nat_lt}

-- A slot, with the time of its claim.
abbrev pub Claimant : Type 0
Claimant = ℕ × ℕ

-- `first_claim best at time` is `best`, unless the slot `at` has a claim that is earlier.
abbrev pub first_claim : Option Claimant → ℕ → Option ℕ → Option Claimant
first_claim best at None = best
first_claim None at (Some time) = Some (at, time)
first_claim (Some best) at (Some time) = if nat_lt time best.1 then Some (at, time) else Some best
