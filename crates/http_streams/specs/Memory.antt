-- Defines devices (readers and writers) over memory, and the plan of each.
-- Rules of this product: a plan has the sizes of pieces, and the call that fails.
use Rattle.std.specs.Prelude.{◌≡◌, ◌≢◌, ℕ, ◌-◌, ◌^◌, min, max, Option, Some, List, [], ◌∷◌, ◌++◌, length, take}
use Rattle.http_streams.specs.Devices.{counted}

-- A `Planned` is the plan of a device and its progress. `pieces` lists, for each further call, the most bytes that the
-- call moves: the last number applies from then on, 0 counts as 1, and an empty list has no limit. `fails_at` is the
-- number, from 0, of the call that fails, if one does; this call uses up no piece. `calls` counts the calls so far.
pub record Planned : Type 0 where
  pub pieces : List ℕ
  pub fails_at : Option ℕ
  pub calls : ℕ

-- `next_piece ns` is the most bytes that the next call moves by the numbers `ns`: at least one, and 2^64 - 1 if there
-- is no limit.
abbrev pub next_piece : List ℕ → ℕ
next_piece [] = 2 ^ 64 - 1
next_piece (n ∷ ns) = max n 1

-- `later_pieces ns` is the list of the numbers for the calls after the next; the last number stays.
abbrev pub later_pieces : List ℕ → List ℕ
later_pieces [] = []
later_pieces (n ∷ []) = n ∷ []
later_pieces (n ∷ m ∷ ns) = m ∷ ns

-- `MakesCall old new` holds if a call led from the plan `old` to `new`, and `old` does not make this call fail.
abbrev pub MakesCall : Planned → Planned → Type 0
MakesCall old new =
    (old.fails_at ≢ Some old.calls)
    × (new ≡ record { pieces = later_pieces old.pieces; fails_at = old.fails_at; calls = counted old.calls })

-- `FailsByPlan old new` holds if a call led from the plan `old` to `new`, and `old` makes this call fail.
abbrev pub FailsByPlan : Planned → Planned → Type 0
FailsByPlan old new =
    (old.fails_at ≡ Some old.calls)
    × (new ≡ record { pieces = old.pieces; fails_at = old.fails_at; calls = counted old.calls })

-- A `DeviceInMemory` is a device over memory: the bytes that a reader has left or that a writer accepted, its plan, and
-- the number of its failures.
pub record DeviceInMemory : Type 0 where
  pub bytes : List ℕ
  pub plan : Planned
  pub failures : ℕ

-- `Delivers old room bytes new` holds if a call with a buffer of the length `room` led from the reader `old` to `new`,
-- and gave `bytes`. These are as many as the plan, the unread bytes and the buffer allow.
abbrev pub Delivers : DeviceInMemory → ℕ → List ℕ → DeviceInMemory → Type 0
Delivers old room bytes new =
    (old.bytes ≡ bytes ++ new.bytes)
    × (length bytes ≡ min (min (next_piece old.plan.pieces) (length old.bytes)) room)
    × MakesCall old.plan new.plan × (new.failures ≡ old.failures)

-- `AcceptsByPlan old bytes n new` holds if a call with `bytes` led from the writer `old` to `new`, and accepted the
-- first `n` of them: as many as the plan allows.
abbrev pub AcceptsByPlan : DeviceInMemory → List ℕ → ℕ → DeviceInMemory → Type 0
AcceptsByPlan old bytes n new =
    (new.bytes ≡ old.bytes ++ take n bytes)
    × (n ≡ min (next_piece old.plan.pieces) (length bytes))
    × MakesCall old.plan new.plan × (new.failures ≡ old.failures)

-- `CountsOneFailure old new` holds if a call led from the device `old` to `new`, moved nothing, and was counted as a
-- failure.
abbrev pub CountsOneFailure : DeviceInMemory → DeviceInMemory → Type 0
CountsOneFailure old new = (new.bytes ≡ old.bytes) × (new.failures ≡ counted old.failures)
