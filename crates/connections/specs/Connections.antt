-- Defines a table of connections: what may happen to a connection, and to the whole table.
-- Source: RFC 9112, sections 9.3 and 9.6 (persistence, pipelining, tear-down).
-- Rules of this product: one reply at a time. A connection is read from, and has a request answered, only after its
-- last reply was taken, and is read from only while less than a request waits. Memory for a read is reserved before it,
-- so no byte that came is lost. No byte of a reply is taken before the reply is committed and its whole line is in the
-- log. A connection is closed only for a stated reason. A limit of time ends a connection only if its client was asked
-- after that time and sent or took nothing; the time for which a read was withheld does not count, nor any after its
-- client ended its side. At most `MAX_LONG` connections hold more than `MAX_SHORT` bytes of input, and no reply is made
-- while more than `MAX_UNSENT` bytes of replies and lines are unsent.
use Rattle.std.specs.Prelude.{◌≡◌, ◌≤◌, ◌<◌, ◌+◌, ◌-◌, ◌/◌, ◌⊎◌, ℕ, Bool, true, false, List, [], ◌∷◌, ◌++◌}
use Rattle.std.specs.Prelude.{Option, None, Some, if◌then◌else◌, length, map, nat_lt, slice_get, slice_set}
use Rattle.std.specs.List.{count_by, sum_by}
use Rattle.connections.specs.declared.TheConstants.{BYTES_PER_MILLI, CROWDED_PER_MILLI, MAX_READ}
use Rattle.connections.specs.declared.TheConstants.{MAX_REQUEST, REQUEST_MILLIS, ROOM_MILLIS}
use Rattle.connections.specs.declared.TheConstants.{MAX_LONG, MAX_SHORT, MAX_UNSENT}
use Rattle.connections.specs.declared.slot.Reason.{Reason}
use Rattle.connections.specs.declared.slot.Reason.TheVariants as Reasons
use Rattle.connections.specs.declared.slot.Stage.{Stage}
use Rattle.connections.specs.declared.slot.Stage.TheVariants as Stages

-- A `Connection` is a slot of the table. Times are in milliseconds.
-- - is_open: whether the slot has a connection.
-- - ended: whether its client will send no more.
-- - closing: whether a reply that ends it was made.
-- - stage: how far its last reply has come.
-- - input: the bytes that came and are not answered.
-- - output: the bytes of its last reply that its writer has not taken.
-- - line: the line that the log is to get for this reply.
-- - needed: the number of bytes below which `input` is known to be less than a request.
-- - spare: the number of bytes for which memory is reserved.
-- - since: the time of the last byte in either direction, or of the first offer of the last reply, or of the permit to
--   hold more than `MAX_SHORT` bytes, if that is later.
-- - began: the time when the request under way began, or of that permit.
-- - reply_size: the number of bytes of the last reply in whole.
-- - offered: whether the last reply was offered to its client.
-- - offered_at: when first.
-- - asked: whether the client, since it last sent or took a byte, ended its side or had a request answered, was asked
--   and sent or took none.
-- - asked_at: when last.
pub record Connection : Type 0 where
  pub is_open : Bool
  pub ended : Bool
  pub closing : Bool
  pub stage : Stage
  pub input : List ℕ
  pub output : List ℕ
  pub line : List ℕ
  pub needed : ℕ
  pub spare : ℕ
  pub since : ℕ
  pub began : ℕ
  pub reply_size : ℕ
  pub offered : Bool
  pub offered_at : ℕ
  pub asked : Bool
  pub asked_at : ℕ

-- `kept s line` is the line of a reply at the stage `s`: nothing once the log got it, or is never to get it.
abbrev pub kept : Stage → List ℕ → List ℕ
kept Stages.Made line = line
kept Stages.Committed line = line
kept Stages.Logged line = []
kept Stages.Uncommitted line = []
kept Stages.Unlogged line = []

-- `fresh open_now now` is a slot without bytes since `now`, with a connection if `open_now` is true.
abbrev pub fresh : Bool → ℕ → Connection
fresh open_now now = record {
  is_open = open_now;
  ended = false;
  closing = false;
  stage = Stages.Logged;
  input = [];
  output = [];
  line = [];
  needed = 0;
  spare = 0;
  since = now;
  began = now;
  reply_size = 0;
  offered = true;
  offered_at = now;
  asked = false;
  asked_at = now;
}

-- `start_of input began now` is the time when the request under way began, after bytes that came at `now`: it began at
-- `began` if some of it, `input`, had come before, else at `now`.
abbrev pub start_of : List ℕ → ℕ → ℕ → ℕ
start_of [] began now = now
start_of (x ∷ input) began now = began

-- `held c` is the number of bytes of `c` that wait for an answer, with those for which memory is reserved.
abbrev pub held : Connection → ℕ
held c = length c.input + c.spare

-- `is_long c` is true if `c` holds more than `MAX_SHORT` bytes.
abbrev pub is_long : Connection → Bool
is_long c = nat_lt MAX_SHORT (held c)

-- `takes_permit c` is true if `c` holds at most `MAX_SHORT` bytes, and more with memory for one more read.
abbrev pub takes_permit : Connection → Bool
takes_permit c = if is_long c then false else nat_lt MAX_SHORT (length c.input + MAX_READ)

-- A `Change` is what happens to one connection: it is opened; memory is reserved for a read; bytes come; its client
-- ends its side; the client is asked, and sends or takes none; the service finds less than a request, which needs so
-- many bytes, or answers one; the log gets the line of the reply, whole or only a proper prefix of it; the writer takes
-- bytes; the connection is closed.
pub data Change : Type 0 where
  Opened : (now : ℕ) → Change
  Reserved : (now : ℕ) → Change
  Came : (bytes : List ℕ) → (now : ℕ) → Change
  Ended : Change
  Asked : (now : ℕ) → Change
  Lacked : (needed : ℕ) → Change
  Answered : (request : List ℕ) → (closes : Bool) → (reply : List ℕ) → (line : List ℕ) → Change
  Logged : (line : List ℕ) → Change
  CutOff : (line : List ℕ) → Change
  Took : (bytes : List ℕ) → (now : ℕ) → Change
  Gone : (why : Reason) → Change

-- An `Entry` is a change at the slot `at`; or the service committed all replies that it made, or failed to.
pub data Entry : Type 0 where
  At : (at : ℕ) → (change : Change) → Entry
  Committed : Entry
  Uncommitted : Entry

-- `MayAnswer c` holds if `c` may have a request answered: its last reply was taken, and no reply has ended it.
pub record MayAnswer (c : Connection) : Type 0 where
  pub is_open : c.is_open ≡ true
  pub drained : c.output ≡ []
  pub lasts : c.closing ≡ false
  pub logged : c.stage ≡ Stages.Logged

-- `IsLacking c` holds if the bytes that wait are known to be less than a request: there are none, or fewer than it
-- needs.
abbrev pub IsLacking : Connection → Type 0
IsLacking c = (length c.input ≡ 0) ⊎ (length c.input < c.needed)

-- `MayRead c` holds if `c` may be read from: it may have a request answered, its client may send more, and what waits
-- is less than a request, and no more than the longest.
pub record MayRead (c : Connection) : Type 0 where
  pub answers : MayAnswer c
  pub goes_on : c.ended ≡ false
  pub lacks : IsLacking c
  pub small : length c.input ≤ MAX_REQUEST

-- `MayOffer c` holds if `c` has a reply under way that may go out.
abbrev pub MayOffer : Connection → Type 0
MayOffer c = (c.is_open ≡ true) × (c.stage ≡ Stages.Logged) × (0 < length c.output)

-- `MayAsk c` holds if the client of `c` may be asked: to send more, by a read, or to take more of its reply, by a
-- write.
abbrev pub MayAsk : Connection → Type 0
MayAsk c = MayRead c ⊎ MayOffer c

-- `IsOver c` holds if the last reply of the connection was taken, and that reply ended it; or its client ended it with
-- less than a request left.
pub record IsOver (c : Connection) : Type 0 where
  pub logged : c.stage ≡ Stages.Logged
  pub drained : c.output ≡ []
  pub ended : (c.closing ≡ true) ⊎ ((c.ended ≡ true) × IsLacking c)

-- `due c` is the time at which the request under way at `c` is to be whole: `REQUEST_MILLIS` after its first byte, and
-- a millisecond later for each `BYTES_PER_MILLI` bytes beyond the first `MAX_READ`.
abbrev pub due : Connection → ℕ
due c = c.began + REQUEST_MILLIS + (length c.input - MAX_READ) / BYTES_PER_MILLI

-- `IsLate now c` holds if a request is under way at `c`, and is not whole when it is due.
abbrev pub IsLate : ℕ → Connection → Type 0
IsLate now c = (0 < length c.input) × (c.output ≡ []) × (due c ≤ now)

-- `reply_due least rate c` is the time at which the client of `c` is to have taken more of its last reply: `least`
-- after it was first offered, and a millisecond later for each `rate` bytes that were taken.
abbrev pub reply_due : ℕ → ℕ → Connection → ℕ
reply_due least rate c = c.offered_at + least + (c.reply_size - length c.output) / rate

-- `IsSlow least rate now c` holds if a reply is under way at `c`, was offered, and too few bytes of it are taken.
abbrev pub IsSlow : ℕ → ℕ → ℕ → Connection → Type 0
IsSlow least rate now c = (c.offered ≡ true) × (0 < length c.output) × (reply_due least rate c ≤ now)

-- `IsOverdue now c` holds if the request under way at `c` is late, or too few bytes of its reply are taken.
abbrev pub IsOverdue : ℕ → Connection → Type 0
IsOverdue now c = IsLate now c ⊎ IsSlow REQUEST_MILLIS BYTES_PER_MILLI now c

-- `IsSilent idle now c` holds if there is a limit of silence, `idle`, and no byte came or was taken for so long.
abbrev pub IsSilent : Option ℕ → ℕ → Connection → Type 0
IsSilent None now c = ⊥
IsSilent (Some idle) now c = c.since + idle ≤ now

-- `IsExpired idle now c` holds if `c` is silent for longer than the limit, or overdue, which needs no limit.
abbrev pub IsExpired : Option ℕ → ℕ → Connection → Type 0
IsExpired idle now c = IsSilent idle now c ⊎ IsOverdue now c

-- `IsIdleFor millis now c` holds if neither a request nor a reply is under way at `c`, and for so long no byte came or
-- was taken.
abbrev pub IsIdleFor : ℕ → ℕ → Connection → Type 0
IsIdleFor millis now c = (length c.input ≡ 0) × (c.output ≡ []) × (c.since + millis ≤ now)

-- `MayMakeRoom now c` holds if `c` is idle for `ROOM_MILLIS`, or overdue.
abbrev pub MayMakeRoom : ℕ → Connection → Type 0
MayMakeRoom now c = IsIdleFor ROOM_MILLIS now c ⊎ IsOverdue now c

-- `IsAwaited P c` holds if the last reply of `c`, if there was one, may go out; its client was asked, and sent or took
-- nothing; and `P` held when it was asked.
abbrev pub IsAwaited : (ℕ → Connection → Type 0) → Connection → Type 0
IsAwaited P c = (c.stage ≡ Stages.Logged) × (c.asked ≡ true) × P c.asked_at c

-- `MayGo why c` holds if the connection `c` may be closed for the reason `why`, as far as the connection tells.
abbrev pub MayGo : Reason → Connection → Type 0
MayGo Reasons.Over c = IsOver c
MayGo Reasons.Broken c = MayAsk c
MayGo Reasons.NoMemory c = MayRead c
MayGo Reasons.Unlogged c = c.stage ≡ Stages.Unlogged
MayGo Reasons.Uncommitted c = c.stage ≡ Stages.Uncommitted
MayGo (Reasons.Expired idle) c = IsAwaited (IsExpired idle) c
MayGo Reasons.MadeRoom c = IsAwaited MayMakeRoom c
MayGo Reasons.Crowded c = IsAwaited (IsSlow ROOM_MILLIS CROWDED_PER_MILLI) c

-- `IsChange change a b` holds if the change may turn the connection `a` into `b`.
abbrev pub IsChange : Change → Connection → Connection → Type 0
IsChange (Opened now) a b = (a.is_open ≡ false) × (b ≡ fresh true now)
IsChange (Reserved now) a b =
    MayRead a
    × (b ≡ record a {
      spare = MAX_READ;
      since = if takes_permit a then now else a.since;
      began = if takes_permit a then now else a.began;
    })
IsChange (Came bytes now) a b =
    MayRead a × (0 < length bytes) × (length bytes ≤ a.spare)
    × (b ≡ record a {
      input = a.input ++ bytes;
      spare = a.spare - length bytes;
      since = now;
      began = start_of a.input a.began now;
      asked = false;
    })
IsChange Ended a b = MayRead a × (b ≡ record a { ended = true; asked = false })
IsChange (Asked now) a b =
    MayAsk a
    × (b ≡ record a {
      since = if a.offered then a.since else now;
      began = if a.offered then a.began else now;
      offered = true;
      offered_at = if a.offered then a.offered_at else now;
      asked = true;
      asked_at = now;
    })
IsChange (Lacked needed) a b = MayAnswer a × (length a.input < needed) × (b ≡ record a { needed = needed })
IsChange (Answered request closes reply line) a b =
    MayAnswer a × (0 < length request) × (a.input ≡ request ++ b.input)
    × (b ≡ record a {
      closing = closes;
      stage = Stages.Made;
      input = b.input;
      output = reply;
      line = line;
      needed = 0;
      began = a.since;
      reply_size = length reply;
      offered = false;
      asked = false;
    })
IsChange (Logged line) a b =
    (a.stage ≡ Stages.Committed) × (line ≡ a.line) × (b ≡ record a { stage = Stages.Logged; line = [] })
IsChange (CutOff line) a b =
    (a.stage ≡ Stages.Committed) × (line ≡ a.line) × (b ≡ record a { stage = Stages.Unlogged; line = [] })
IsChange (Took bytes now) a b =
    (a.is_open ≡ true) × (a.stage ≡ Stages.Logged) × (0 < length bytes) × (a.output ≡ bytes ++ b.output)
    × (b ≡ record a {
      output = b.output;
      since = now;
      began = now;
      offered = true;
      offered_at = if a.offered then a.offered_at else now;
      asked = false;
    })
IsChange (Gone why) a b = (a.is_open ≡ true) × MayGo why a × (b ≡ fresh false 0)

-- `longs table` is the number of connections of the table that hold more than `MAX_SHORT` bytes.
abbrev pub longs : List Connection → ℕ
longs table = count_by is_long table

-- `unsent_of c` is the number of bytes of the last reply of `c` that its writer has not taken, and of the line that the
-- log is to get for it.
abbrev pub unsent_of : Connection → ℕ
unsent_of c = length c.output + length c.line

-- `unsent table` is the number of these bytes, of all connections.
abbrev pub unsent : List Connection → ℕ
unsent table = sum_by unsent_of table

-- `HasOne P table` holds if a slot of the table has the property `P`.
abbrev pub HasOne : (Connection → Type 0) → List Connection → Type 0
HasOne P table = (at : ℕ) × (c : Connection) × (slice_get table at ≡ Some c) × P c

-- `AwaitsAnswer c` holds if `c` may have a request answered, and is not known to have less than one.
abbrev pub AwaitsAnswer : Connection → Type 0
AwaitsAnswer c = MayAnswer c × (IsLacking c → ⊥)

-- `IsCrowded table` holds if too many bytes are unsent for one more reply, and a connection awaits an answer.
abbrev pub IsCrowded : List Connection → Type 0
IsCrowded table = (MAX_UNSENT < unsent table) × HasOne AwaitsAnswer table

-- `IsCalledFor why table` holds if the table gives the reason `why` to close a connection: it is crowded, if it is
-- that; each other reason is the connection's own.
abbrev pub IsCalledFor : Reason → List Connection → Type 0
IsCalledFor Reasons.Over table = Unit {0}
IsCalledFor Reasons.Broken table = Unit {0}
IsCalledFor Reasons.NoMemory table = Unit {0}
IsCalledFor Reasons.Unlogged table = Unit {0}
IsCalledFor Reasons.Uncommitted table = Unit {0}
IsCalledFor (Reasons.Expired idle) table = Unit {0}
IsCalledFor Reasons.MadeRoom table = Unit {0}
IsCalledFor Reasons.Crowded table = IsCrowded table

-- `HasReadRoom c table` holds if the table has room for a read of its connection `c`: `c` then holds at most
-- `MAX_SHORT` bytes, or holds more already, or fewer than `MAX_LONG` others do.
abbrev pub HasReadRoom : Connection → List Connection → Type 0
HasReadRoom c table =
    (length c.input + MAX_READ ≤ MAX_SHORT) ⊎ (is_long c ≡ true) ⊎ (longs table < MAX_LONG)

-- `HasRoom change c table` holds if the table has room for the change of its connection `c`: for a read, if memory is
-- reserved for one. A request is answered if at most `MAX_UNSENT` bytes are unsent. A connection is closed if the table
-- calls for it.
abbrev pub HasRoom : Change → Connection → List Connection → Type 0
HasRoom (Opened now) c table = Unit {0}
HasRoom (Reserved now) c table = HasReadRoom c table
HasRoom (Came bytes now) c table = Unit {0}
HasRoom Ended c table = Unit {0}
HasRoom (Asked now) c table = Unit {0}
HasRoom (Lacked needed) c table = Unit {0}
HasRoom (Answered request closes reply line) c table = unsent table ≤ MAX_UNSENT
HasRoom (Logged line) c table = Unit {0}
HasRoom (CutOff line) c table = Unit {0}
HasRoom (Took bytes now) c table = Unit {0}
HasRoom (Gone why) c table = IsCalledFor why table

-- `ChangesAt at change old new` holds if the change, for which the table `old` has room, gives `new` at the slot `at`,
-- and leaves all other slots as they are.
pub record ChangesAt (at : ℕ) (change : Change) (old new : List Connection) : Type 0 where
  pub before : Connection
  pub after : Connection
  pub found : slice_get old at ≡ Some before
  pub changed : IsChange change before after
  pub room : HasRoom change before old
  pub is : new ≡ slice_set old at after

-- `committed_at s c` is the connection `c`, whose last reply is at the stage `s`, after a commit.
abbrev pub committed_at : Stage → Connection → Connection
committed_at Stages.Made c = record c { stage = Stages.Committed }
committed_at Stages.Committed c = c
committed_at Stages.Logged c = c
committed_at Stages.Uncommitted c = c
committed_at Stages.Unlogged c = c

-- `committed c` is the connection `c` after a commit: a reply that was made is committed.
abbrev pub committed : Connection → Connection
committed c = committed_at c.stage c

-- `uncommitted_at s c` is the connection `c`, whose last reply is at the stage `s`, after a commit that failed.
abbrev pub uncommitted_at : Stage → Connection → Connection
uncommitted_at Stages.Made c = record c { stage = Stages.Uncommitted; line = [] }
uncommitted_at Stages.Committed c = c
uncommitted_at Stages.Logged c = c
uncommitted_at Stages.Uncommitted c = c
uncommitted_at Stages.Unlogged c = c

-- `uncommitted c` is the connection `c` after a commit that failed: a reply that was made is lost, with its line.
abbrev pub uncommitted : Connection → Connection
uncommitted c = uncommitted_at c.stage c

-- `Changes e old new` holds if the entry `e` changes the table `old` to `new`.
abbrev pub Changes : Entry → List Connection → List Connection → Type 0
Changes (At at change) old new = ChangesAt at change old new
Changes Committed old new = new ≡ map committed old
Changes Uncommitted old new = new ≡ map uncommitted old

-- `AreChanges entries old new` holds if the entries, one after another, change the table `old` to `new`.
abbrev pub AreChanges : List Entry → List Connection → List Connection → Type 0
AreChanges [] old new = new ≡ old
AreChanges (e ∷ entries) old new = (mid : List Connection) × Changes e old mid × AreChanges entries mid new
