-- Defines what one call at a slot of the table does: one change, or none if the connection is not ready for it.
-- Source: RFC 9112, section 9.6 (tear-down).
-- Rules of this product: a call for which the connection is not ready has no effect.
use Rattle.std.specs.Prelude.{◌≡◌, ◌≤◌, ◌<◌, ◌⊎◌, ℕ, Bool, true, false, List, length, take, Some, slice_get}
use Rattle.connections.specs.Connections.{Change, ChangesAt, Connection, HasOne, HasReadRoom, IsCalledFor}
use Rattle.connections.specs.Connections.{MayGo, MayOffer, MayRead}
use Rattle.connections.specs.declared.slot.Reason.{Reason}
use Rattle.connections.specs.declared.slot.Stage.TheVariants as Stages

-- `IsNoneAt at P table` holds if no connection at the slot `at` has the property `P`.
abbrev pub IsNoneAt : ℕ → (Connection → Type 0) → List Connection → Type 0
IsNoneAt at P table = (c : Connection) → slice_get table at ≡ Some c → P c → ⊥

-- `IsMade done at change P old new` holds if the change, at the slot `at`, turned the table `old` into `new`; or, if
-- `done` is false, the table is unchanged, and no connection at this slot has the property `P`, which the change needs.
abbrev pub IsMade : Bool → ℕ → Change → (Connection → Type 0) → List Connection → List Connection → Type 0
IsMade true at change P old new = ChangesAt at change old new
IsMade false at change P old new = (new ≡ old) × IsNoneAt at P old

-- `IsFree c` holds if the slot has no connection.
abbrev pub IsFree : Connection → Type 0
IsFree c = c.is_open ≡ false

-- `MayTake c` holds if the slot has a connection whose last reply may go out: its whole line is in the log.
abbrev pub MayTake : Connection → Type 0
MayTake c = (c.is_open ≡ true) × (c.stage ≡ Stages.Logged)

-- `MayClose why c` holds if the slot has a connection, and it may be closed for the reason `why`.
abbrev pub MayClose : Reason → Connection → Type 0
MayClose why c = (c.is_open ≡ true) × MayGo why c

-- `MayEnd why table c` holds if moreover the table gives that reason.
abbrev pub MayEnd : Reason → List Connection → Connection → Type 0
MayEnd why table c = MayClose why c × IsCalledFor why table

-- `MayTakeSome count c` holds if `MayTake c` holds, and the reply has a byte among the first `count`.
abbrev pub MayTakeSome : ℕ → Connection → Type 0
MayTakeSome count c = MayTake c × (0 < length (take count c.output))

-- `MayReadBytes bytes c` holds if the connection may be read from, and there are `bytes`, for which memory is reserved.
abbrev pub MayReadBytes : List ℕ → Connection → Type 0
MayReadBytes bytes c = MayRead c × (0 < length bytes) × (length bytes ≤ c.spare)

-- `MayReserve table c` holds if the connection `c` of the table may be read from, and the table has room for this.
abbrev pub MayReserve : List Connection → Connection → Type 0
MayReserve table c = MayRead c × HasReadRoom c table

-- `IsUnasked table c` holds if the client of the connection `c` of the table may be asked now, and was not since it
-- last sent or took a byte.
abbrev pub IsUnasked : List Connection → Connection → Type 0
IsUnasked table c = (MayReserve table c ⊎ MayOffer c) × (c.asked ≡ false)

-- `IsOneUnasked table` holds if there is such a connection.
abbrev pub IsOneUnasked : List Connection → Type 0
IsOneUnasked table = HasOne (IsUnasked table) table
