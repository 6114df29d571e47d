-- Defines which connections of a table are over a limit, when the next is, and which makes room for another.
-- Source: RFC 9112, sections 9.3 and 9.5 (a server may close an idle connection, and one that times out).
-- Rules of this product: if no slot is free, the connection idle longest makes room, after `ROOM_MILLIS` at the
-- earliest; if none is idle so long, the one whose request is late longest; if none is late, the one that is longest
-- too slow in taking its reply. If the table is crowded, the reader that is longest too slow may be closed, after
-- `ROOM_MILLIS` at the earliest, if it takes fewer than `CROWDED_PER_MILLI` bytes a millisecond.
use Rattle.std.specs.Prelude.{◌≡◌, ◌≤◌, ◌<◌, ◌+◌, ◌⊎◌, ℕ, true, false, List, Option, Some, None, slice_get}
use Rattle.connections.specs.Connections.{Connection, Entry, Gone, IsCalledFor, IsExpired}
use Rattle.connections.specs.Connections.{IsIdleFor, IsLate, IsSlow, MayMakeRoom}
use Rattle.connections.specs.Connections.{due, fresh, reply_due}
use Rattle.connections.specs.Made.{MayClose}
use Rattle.connections.specs.Rounds.{AreAll}
use Rattle.connections.specs.declared.TheConstants.{BYTES_PER_MILLI, CROWDED_PER_MILLI, MAX_WAIT}
use Rattle.connections.specs.declared.TheConstants.{REQUEST_MILLIS, ROOM_MILLIS}
use Rattle.connections.specs.declared.slot.Claim.{Claim}
use Rattle.connections.specs.declared.slot.Claim.TheVariants as Claims
use Rattle.connections.specs.declared.slot.Limit.{Limit}
use Rattle.connections.specs.declared.slot.Limit.TheVariants as Limits
use Rattle.connections.specs.declared.slot.Reason.{Reason}
use Rattle.connections.specs.declared.slot.Reason.TheVariants as Reasons
use Rattle.connections.specs.declared.slot.Stage.TheVariants as Stages

-- `AreClosed why table entries new` holds if the entries, which lead from the table `table` to `new`, close exactly the
-- connections that may be closed for the reason `why`, while the table calls for it, and do nothing else.
pub record AreClosed (why : Reason) (table : List Connection) (entries : List Entry) (new : List Connection)
    : Type 0 where
  pub all : AreAll (λ change. change ≡ Gone why) entries
  pub each : (at : ℕ) (c : Connection) → slice_get table at ≡ Some c
      → (MayClose why c × (slice_get new at ≡ Some (fresh false 0)))
      ⊎ ((MayClose why c → IsCalledFor why new → ⊥) × (slice_get new at ≡ Some c))

-- `IsOverLimit limit now c` holds if the connection `c` is over the limit at the time `now`.
abbrev pub IsOverLimit : Limit → ℕ → Connection → Type 0
IsOverLimit (Limits.Expiry idle) now c = IsExpired idle now c
IsOverLimit Limits.Room now c = MayMakeRoom now c
IsOverLimit Limits.Crowd now c = IsSlow ROOM_MILLIS CROWDED_PER_MILLI now c

-- `IsDue limit now c` holds if the slot has a connection whose client was asked, and sent or took nothing, and which is
-- over the limit at the time `now` if it goes on so.
abbrev pub IsDue : Limit → ℕ → Connection → Type 0
IsDue limit now c =
    (c.is_open ≡ true) × (c.stage ≡ Stages.Logged) × (c.asked ≡ true) × IsOverLimit limit now c

-- `IsFirstAfter now P wait` holds if `P` holds at no time from `now` until `wait` is over, and then holds, unless
-- `wait` is `MAX_WAIT`; or, if there is no `wait`, holds at no time.
abbrev pub IsFirstAfter : ℕ → (ℕ → Type 0) → Option ℕ → Type 0
IsFirstAfter now P None = (t : ℕ) → P t → ⊥
IsFirstAfter now P (Some wait) =
    ((t : ℕ) → now ≤ t → t < now + wait → P t → ⊥) × ((wait ≡ MAX_WAIT) ⊎ P (now + wait))

-- `IsOneOver limit table now` holds if a connection of the table is due at the time `now`.
pub record IsOneOver (limit : Limit) (table : List Connection) (now : ℕ) : Type 0 where
  pub at : ℕ
  pub connection : Connection
  pub found : slice_get table at ≡ Some connection
  pub over : IsDue limit now connection

-- `HasClaim claim c` holds if the connection `c` may be closed before others: it may make room, since it is idle, or
-- its request is late, or it is too slow in taking its reply; or it is too slow for a table that is crowded.
abbrev pub HasClaim : Claim → Connection → Type 0
HasClaim Claims.Idle c = MayClose Reasons.MadeRoom c × IsIdleFor ROOM_MILLIS c.asked_at c
HasClaim Claims.Late c = MayClose Reasons.MadeRoom c × IsLate c.asked_at c
HasClaim Claims.Slow c = MayClose Reasons.MadeRoom c × IsSlow REQUEST_MILLIS BYTES_PER_MILLI c.asked_at c
HasClaim Claims.Crowding c = MayClose Reasons.Crowded c × IsSlow ROOM_MILLIS CROWDED_PER_MILLI c.asked_at c

-- `claimed claim c` is the time since which `c` is idle, late or slow.
abbrev pub claimed : Claim → Connection → ℕ
claimed Claims.Idle c = c.since
claimed Claims.Late c = due c
claimed Claims.Slow c = reply_due REQUEST_MILLIS BYTES_PER_MILLI c
claimed Claims.Crowding c = reply_due ROOM_MILLIS CROWDED_PER_MILLI c

-- `IsEarliest claim table found` holds if `found` is the slot of the connection that has the claim longest, the lowest
-- of several; or there is none.
abbrev pub IsEarliest : Claim → List Connection → Option ℕ → Type 0
IsEarliest claim table None = (at : ℕ) (c : Connection) → slice_get table at ≡ Some c → HasClaim claim c → ⊥
IsEarliest claim table (Some at) =
    (c : Connection) × (slice_get table at ≡ Some c) × HasClaim claim c
    × ((k : ℕ) (d : Connection) → slice_get table k ≡ Some d → HasClaim claim d
    → (claimed claim c < claimed claim d) ⊎ ((claimed claim c ≡ claimed claim d) × (at ≤ k)))

-- `IsLatest table found` holds if `found` is the slot of the connection whose request is late longest; if none is, of
-- the one that is longest too slow in taking its reply; or there is neither.
abbrev pub IsLatest : List Connection → Option ℕ → Type 0
IsLatest table found =
    ((at : ℕ) × (found ≡ Some at) × IsEarliest Claims.Late table found)
    ⊎ (IsEarliest Claims.Late table None × IsEarliest Claims.Slow table found)

-- `IsVictim table found` holds if `found` is the slot of the connection that makes room: the one idle longest; if none
-- is idle, the one that `IsLatest` names; or there is neither.
abbrev pub IsVictim : List Connection → Option ℕ → Type 0
IsVictim table found =
    ((at : ℕ) × (found ≡ Some at) × IsEarliest Claims.Idle table found)
    ⊎ (IsEarliest Claims.Idle table None × IsLatest table found)
