-- Defines when a result is a value with a given property.
use Rattle.std.specs.Prelude.{Result, Ok, Err}

-- `Gave r P` holds if the result `r` is a value, not an error, and `P` holds of that value.
abbrev pub Gave : {A E : Type 0} → Result A E → (A → Type 0) → Type 0
Gave (Ok a) P = P a
Gave (Err e) P = ⊥
