-- Defines phases at one slot, after it is known that something is to be done there.
-- Source: this crate's turns.
use Rattle.std.specs.Prelude.{◌≡◌, ℕ, List}
use Rattle.connections.specs.Connections.{Connection, MayRead}
use Rattle.connections.specs.declared.TheConstants.{MAX_READ}
use Rattle.connection_loop.specs.Acts.{Act, AreDone, NotAccepted}
use Rattle.connection_loop.specs.Happenings.{Happening, after_act, calls_of}
use Rattle.connection_loop.specs.Phases.{Phase}
use Rattle.connection_loop.specs.Turns.{IsReading, IsSomeAt, IsTry, IsWarning}
use Rattle.connection_loop.specs.declared.course.Course.{Course}

-- `IsATry at` is the phase of one attempt to accept a connection at the slot `at`.
abbrev pub IsATry : ℕ → Phase
IsATry at c table hs = IsTry c.pause at hs

-- `IsAFailure does old first new last` holds if, after accepting failed, the loop warned if it is to, and remembers so.
abbrev pub IsAFailure : {N : Type 0} → (N → Act → N → Type 0) → Course → N → Course → N → Type 0
IsAFailure does old first new last =
    (warning : List Happening) × (new ≡ after_act old NotAccepted) × IsWarning old.pause warning
    × AreDone does (calls_of warning) first last

-- `IsReserved at table` holds if the connection at the slot `at` may be read from, and memory is reserved for this.
abbrev pub IsReserved : ℕ → List Connection → Type 0
IsReserved at table = IsSomeAt at (λ c. MayRead c × (c.spare ≡ MAX_READ)) table

-- `IsARead at` is the phase of one read at the slot `at`.
abbrev pub IsARead : ℕ → Phase
IsARead at c table hs = IsReading at hs
