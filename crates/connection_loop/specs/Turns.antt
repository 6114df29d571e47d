-- Defines the turns of a loop over many connections: what happens in each, and in which order.
-- Source: RFC 9112, sections 9.3, 9.5 and 9.6 (persistence, failures and timeouts, tear-down).
-- Rules of this product: in a turn the loop waits, reads the clock, accepts, reads once from each connection, makes one
-- round of answers, reads the clock again, writes once to each connection, and closes what is over, and what is over a
-- limit of time; then it makes room for a client that waits. It sleeps over no limit, and not after a turn that moved
-- bytes, answered or closed, nor before each client that may be asked was asked after its last byte, and gave nothing.
-- With one slot alone, and no limit of silence, no connection is closed for the sake of others. A connection whose read
-- or write failed, or for which no memory could be had, is closed; the others go on. If the commit of a round fails, no
-- reply of the round is sent or logged, and the turn is the last one.
use Rattle.std.specs.Prelude.{◌≡◌, ◌≤◌, ◌<◌, ◌⊎◌, ℕ, zero, suc, Bool, true, false, List, [], ◌∷◌, ◌++◌, map}
use Rattle.std.specs.Prelude.{Option, Some, None, Result, Ok, Err, length, slice_get}
use Rattle.connections.specs.Connections.{At, Connection, Entry, IsCalledFor, MayOffer, Reserved}
use Rattle.connections.specs.Limits.{IsEarliest, IsFirstAfter, IsOneOver, IsVictim}
use Rattle.connections.specs.Made.{IsFree, IsNoneAt, IsOneUnasked, MayEnd, MayReserve}
use Rattle.connections.specs.Rounds.{IsOrdered, IsRound, next_slot}
use Rattle.connections.specs.declared.slot.Claim.TheVariants as Claims
use Rattle.connections.specs.declared.slot.Limit.TheVariants as Over
use Rattle.connections.specs.declared.slot.Reason.{Reason}
use Rattle.connections.specs.declared.slot.Reason.TheVariants as Reasons
use Rattle.connections.specs.declared.table.Outcome.{Outcome}
use Rattle.connections.specs.declared.table.Outcome.TheVariants as did
use Rattle.connection_loop.specs.Acts.{Waited, Told, Accepted, NoneWaits, NotAccepted, Queued}
use Rattle.connection_loop.specs.Acts.{Read, ReadEnd, ReadNothing, ReadFailed, Wrote, WroteNothing, WriteFailed}
use Rattle.connection_loop.specs.Acts.{Closed, Warned}
use Rattle.connection_loop.specs.Happenings.{Happening, Call, Did, Rounded}
use Rattle.connection_loop.specs.Phases.{Each, IsNothing, Phase, Then}
use Rattle.connection_loop.specs.declared.TheConstants.{MOST}
use Rattle.connection_loop.specs.declared.course.Course.{Course}
use Rattle.connection_loop.specs.declared.limits.Limits.{Limits}
use Rattle.connection_loop.specs.declared.turn.LoopFault.{LoopFault}
use Rattle.connection_loop.specs.declared.turn.LoopFault.TheVariants as faults

-- `most_of connections` is the number of connections to be accepted: if none is given, more than any run can reach.
abbrev pub most_of : Option ℕ → ℕ
most_of (Some number) = number
most_of None = MOST

-- `MayAccept limits c` holds if a connection may be accepted: fewer were accepted than are to be, no pause runs, and
-- since the last wait no call said that none waits.
pub record MayAccept (limits : Limits) (c : Course) : Type 0 where
  pub fewer : c.accepted < most_of limits.connections
  pub no_pause : c.resume ≤ c.clock
  pub may_wait : c.nobody ≡ false

-- `IsSomeAt at P table` holds if a slot `at` of the table has the property `P`.
abbrev pub IsSomeAt : ℕ → (Connection → Type 0) → List Connection → Type 0
IsSomeAt at P table = (c : Connection) × (slice_get table at ≡ Some c) × P c

-- `IsLimited limits table` holds if a connection may be closed for the sake of others: there is a limit of silence, or
-- more than one slot.
abbrev pub IsLimited : Limits → List Connection → Type 0
IsLimited limits table = ((idle : ℕ) × (limits.idle ≡ Some idle)) ⊎ (1 < length table)

-- `IsCrowded limits table` holds if the reader that is longest too slow is to be closed: too many bytes are unsent, and
-- another connection waits for its answer.
pub record IsCrowded (limits : Limits) (table : List Connection) : Type 0 where
  pub limited : IsLimited limits table
  pub called : IsCalledFor Reasons.Crowded table

-- `HasDue limits c table t` holds if the loop has something to do at the time `t` if no byte comes or is taken before:
-- a connection is over a limit; a client waits for room, and a connection may make it; the table is crowded, and a
-- reader is too slow for this; or a pause is over.
abbrev pub HasDue : Limits → Course → List Connection → ℕ → Type 0
HasDue limits c table t =
    ((IsLimited limits table × IsOneOver (Over.Expiry limits.idle) table t)
    ⊎ ((c.sought ≡ true) × IsOneOver Over.Room table t))
    ⊎ ((IsCrowded limits table × IsOneOver Over.Crowd table t) ⊎ ((c.clock < c.resume) × (c.resume ≤ t)))

-- `IsFull table` holds if each slot has a connection.
abbrev pub IsFull : List Connection → Type 0
IsFull table = (at : ℕ) → IsNoneAt at IsFree table

-- `HasMore limits c table` holds if the loop has something to do at once: the last turn moved bytes, answered or
-- closed; or a client may be asked, and was not since its last byte; or a connection may be accepted at a free slot, as
-- when a pause ran when clients were last accepted, and is over since.
abbrev pub HasMore : Limits → Course → List Connection → Type 0
HasMore limits c table = ((c.busy ≡ true) ⊎ IsOneUnasked table) ⊎ (MayAccept limits c × (IsFull table → ⊥))

-- `IsWait limits c table millis` holds if the wait is none if there is something to do at once, and else ends when the
-- next thing is due, or with the first event if nothing will be. So the loop sleeps only if each client that may be
-- asked was asked, and gave nothing; and if none may be accepted, or no slot is free, or no client waited for one.
abbrev pub IsWait : Limits → Course → List Connection → Option ℕ → Type 0
IsWait limits c table millis =
    (HasMore limits c table → millis ≡ Some 0)
    × ((HasMore limits c table → ⊥) → IsFirstAfter c.clock (HasDue limits c table) millis)

-- `IsWaiting limits went` is the phase of the wait; `went` is whether it succeeded.
abbrev pub IsWaiting : Limits → Bool → Phase
IsWaiting limits went c table hs =
    (millis : Option ℕ) × IsWait limits c table millis × (hs ≡ Call (Waited millis went) ∷ [])

-- `IsTold` is the phase of a reading of the clock.
abbrev pub IsTold : Phase
IsTold c table hs = (now : ℕ) × (hs ≡ Call (Told now) ∷ [])

-- `IsClosedAt why at` is the phase that closes the connection at the slot `at` if and only if it may be closed for the
-- reason `why`.
abbrev pub IsClosedAt : Reason → ℕ → Phase
IsClosedAt why at c table hs =
    ((hs ≡ Call (Closed at why) ∷ []) × IsSomeAt at (MayEnd why table) table)
    ⊎ ((hs ≡ []) × IsNoneAt at (MayEnd why table) table)

-- `MakesRoom limits c table` holds if it is to be asked whether a client waits that could not be accepted: one may be
-- accepted, and no slot is free; or accepting failed in this turn, as when no file descriptor is free.
pub record MakesRoom (limits : Limits) (c : Course) (table : List Connection) : Type 0 where
  pub limited : IsLimited limits table
  pub lacks : (c.failed ≡ true) ⊎ (MayAccept limits c × IsFull table)

-- `IsRoomFor victim hs` holds if a client waits, and the connection at the slot `victim`, if there is one, makes room.
abbrev pub IsRoomFor : Option ℕ → List Happening → Type 0
IsRoomFor None hs = hs ≡ Call (Queued true) ∷ []
IsRoomFor (Some at) hs = hs ≡ Call (Queued true) ∷ Call (Closed at Reasons.MadeRoom) ∷ []

-- `IsRoom limits` is the phase that makes room: nothing happens if it is not to be asked whether a client waits, or if
-- none does; else the connection idle longest is closed; or the one late longest, or slow longest; or none.
abbrev pub IsRoom : Limits → Phase
IsRoom limits c table hs =
    ((hs ≡ []) × (MakesRoom limits c table → ⊥))
    ⊎ (MakesRoom limits c table
    × ((hs ≡ Call (Queued false) ∷ [])
    ⊎ ((victim : Option ℕ) × IsVictim table victim × IsRoomFor victim hs)))

-- `IsWarning pause hs` holds if `hs` warns of a failure to accept that follows the pause `pause`: only the first of
-- consecutive failures has a warning.
abbrev pub IsWarning : ℕ → List Happening → Type 0
IsWarning zero hs = (done : Bool) × (hs ≡ Call (Warned done) ∷ [])
IsWarning (suc pause) hs = hs ≡ []

-- `IsTry pause at hs` holds if a connection was accepted at the slot `at`; or none waits; or accepting failed.
abbrev pub IsTry : ℕ → ℕ → List Happening → Type 0
IsTry pause at hs =
    ((hs ≡ Call (Accepted at) ∷ []) ⊎ (hs ≡ Call NoneWaits ∷ []))
    ⊎ ((warning : List Happening) × (hs ≡ Call NotAccepted ∷ warning) × IsWarning pause warning)

-- `IsAcceptedAt limits at` is the phase that accepts a connection at the slot `at` if it is free and one may be
-- accepted.
abbrev pub IsAcceptedAt : Limits → ℕ → Phase
IsAcceptedAt limits at c table hs =
    ((hs ≡ []) × (MayAccept limits c → IsNoneAt at IsFree table))
    ⊎ (MayAccept limits c × IsSomeAt at IsFree table × IsTry c.pause at hs)

-- `IsReading at hs` holds if a read at the slot `at` gave bytes, or the end, or nothing; or it failed, and the
-- connection is closed.
abbrev pub IsReading : ℕ → List Happening → Type 0
IsReading at hs =
    (((bytes : List ℕ) × (hs ≡ Call (Read at bytes) ∷ [])) ⊎ (hs ≡ Call (ReadEnd at) ∷ []))
    ⊎ ((hs ≡ Call (ReadNothing at) ∷ []) ⊎ (hs ≡ Call (ReadFailed at) ∷ Call (Closed at Reasons.Broken) ∷ []))

-- `IsReadAt at` is the phase that reads once from the connection at the slot `at`, after memory was reserved for this;
-- nothing happens if it may not be read from; if memory is refused, it is closed for this reason.
abbrev pub IsReadAt : ℕ → Phase
IsReadAt at c table hs =
    ((rest : List Happening) × (hs ≡ Did (At at (Reserved c.clock)) ∷ rest) × IsReading at rest)
    ⊎ (((hs ≡ []) × IsNoneAt at (MayReserve table) table) ⊎ IsClosedAt Reasons.NoMemory at c table hs)

-- `dids entries` are the happenings of entries without a call.
abbrev pub dids : List Entry → List Happening
dids entries = map Did entries

-- `is_lost outcome` is true if a round with this outcome lost its replies: their commit failed.
abbrev pub is_lost : Outcome → Bool
is_lost did.Quiet = false
is_lost did.Answered = false
is_lost did.Uncommitted = true

-- `IsAnswering is_unfinished lost` is the phase of one round of answers, from the slot on at which the last one
-- stopped; `lost` is whether it lost its replies.
abbrev pub IsAnswering : (List ℕ → Type 0) → Bool → Phase
IsAnswering is_unfinished lost c table hs =
    (outcome : Outcome) × (end : ℕ) × (entries : List Entry) × (lost ≡ is_lost outcome) × IsOrdered outcome entries
    × IsRound is_unfinished c.from end table entries
    × (hs ≡ dids entries ++ Rounded outcome (next_slot end (length table)) ∷ [])

-- `IsSending at hs` holds if a write at the slot `at` took bytes, or nothing; or it failed, and the connection is
-- closed.
abbrev pub IsSending : ℕ → List Happening → Type 0
IsSending at hs =
    ((bytes : List ℕ) × (hs ≡ Call (Wrote at bytes) ∷ []))
    ⊎ ((hs ≡ Call (WroteNothing at) ∷ []) ⊎ (hs ≡ Call (WriteFailed at) ∷ Call (Closed at Reasons.Broken) ∷ []))

-- `IsSentAt at` is the phase that writes once what is unsent at the slot `at`, if it may go out.
abbrev pub IsSentAt : ℕ → Phase
IsSentAt at c table hs = (IsSomeAt at MayOffer table × IsSending at hs) ⊎ ((hs ≡ []) × IsNoneAt at MayOffer table)

-- `IsClearing` is the phase that closes each connection that is over, whose line was cut off, or whose commit failed.
abbrev pub IsClearing : Phase
IsClearing =
    Then (Each (IsClosedAt Reasons.Over))
    (Then (Each (IsClosedAt Reasons.Unlogged)) (Each (IsClosedAt Reasons.Uncommitted)))

-- `IsExpiring limits` is the phase that closes exactly the connections that are over a limit of time; none if no
-- connection may be closed for the sake of others.
abbrev pub IsExpiring : Limits → Phase
IsExpiring limits c table hs =
    (IsLimited limits table × Each (IsClosedAt (Reasons.Expired limits.idle)) c table hs)
    ⊎ ((hs ≡ []) × (IsLimited limits table → ⊥))

-- `IsRelieved slowest` is the phase that closes the reader that is longest too slow, if there is one.
abbrev pub IsRelieved : Option ℕ → Phase
IsRelieved None = IsNothing
IsRelieved (Some at) = IsClosedAt Reasons.Crowded at

-- `IsRelief limits` is the phase that closes the reader that is longest too slow if the table is crowded.
abbrev pub IsRelief : Limits → Phase
IsRelief limits c table hs =
    ((hs ≡ []) × (IsCrowded limits table → ⊥))
    ⊎ (IsCrowded limits table
    × ((slowest : Option ℕ) × IsEarliest Claims.Crowding table slowest × IsRelieved slowest c table hs))

-- `IsLimiting limits` is the phase that closes the connections that are over a limit of time, then the reader that is
-- longest too slow if the table is crowded, and then the one that makes room for a client that waits.
abbrev pub IsLimiting : Limits → Phase
IsLimiting limits = Then (IsExpiring limits) (Then (IsRelief limits) (IsRoom limits))

-- `IsIncoming limits` is the phase of the clock, of the connections that come, and of what they send.
abbrev pub IsIncoming : Limits → Phase
IsIncoming limits = Then IsTold (Then (Each (IsAcceptedAt limits)) (Each IsReadAt))

-- `IsOutgoing limits` is the phase of the clock, which tells how long the round took, of what is sent, and of the
-- connections that are then closed.
abbrev pub IsOutgoing : Limits → Phase
IsOutgoing limits = Then IsTold (Then (Each IsSentAt) (Then IsClearing (IsLimiting limits)))

-- `IsAnsweredThen limits is_unfinished lost P` is the phase of a wait that succeeded, of what comes, of one round of
-- answers, which lost its replies if `lost` is true, and then of `P`.
abbrev pub IsAnsweredThen : Limits → (List ℕ → Type 0) → Bool → Phase → Phase
IsAnsweredThen limits is_unfinished lost P =
    Then (IsWaiting limits true) (Then (IsIncoming limits) (Then (IsAnswering is_unfinished lost) P))

-- `IsTurn limits is_unfinished result` is the phase of one turn with this result: whole; or of a wait that failed; or
-- of a turn whose round lost its replies, which goes on only to close the connections that are over or lost a reply.
abbrev pub IsTurn : Limits → (List ℕ → Type 0) → Result (Unit {0}) LoopFault → Phase
IsTurn limits is_unfinished (Ok done) = IsAnsweredThen limits is_unfinished false (IsOutgoing limits)
IsTurn limits is_unfinished (Err faults.Network) = IsWaiting limits false
IsTurn limits is_unfinished (Err faults.Commit) = IsAnsweredThen limits is_unfinished true IsClearing
