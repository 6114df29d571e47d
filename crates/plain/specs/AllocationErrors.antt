-- Defines which errors a call that allocates may return.
-- Rules of this product: a failed allocation may replace any other error.
use Rattle.std.specs.Prelude.{◌≡◌}

-- `OrNoMemory memory Refused why` holds if the error `why` satisfies `Refused`, or is `memory`, the error of a failed
-- allocation. `Refused` states which errors the input has; `memory` says nothing about the input.
abbrev pub OrNoMemory : {F : Type 0} → F → (F → Type 0) → F → Type 0
OrNoMemory memory Refused why = (why ≡ memory → ⊥) → Refused why
