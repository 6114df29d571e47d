-- Defines the decision of a statement: a proof of it, or a refutation.
use Rattle.std.specs.Prelude.{◌⊎◌, Bool, true, false, Option, Some, None}
use Rattle.std.proofs.Common.{inl, inr}

-- `Decided P` is a proof that `P` holds, or that it does not.
abbrev pub Decided : Type 0 → Type 0
Decided P = P ⊎ (P → ⊥)

-- `is_proved d` is true if the decision `d` is a proof, and false if it is a refutation.
abbrev pub is_proved : {P : Type 0} → Decided P → Bool
is_proved (inl p) = true
is_proved (inr n) = false

-- `witness d` is the value that the decision `d` proves to satisfy a property; `None` if `d` proves that no value does.
abbrev pub witness : {A : Type 0} {P : A → Type 0} → Decided ((a : A) × P a) → Option A
witness (inl h) = Some h.0
witness (inr n) = None
