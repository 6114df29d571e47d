-- Defines what happens in a loop over many connections, in one order, and what the loop remembers of it.
-- Source: RFC 9112, sections 9.3 and 9.5 (persistence, failures and timeouts).
-- Rules of this product: each change that the sockets see is a call, and has the time that the clock told last. After
-- a failure to accept, none is accepted for 1, 2, 4 .. 1000 milliseconds.
use Rattle.std.specs.Prelude.{◌+◌, ◌*◌, ℕ, zero, suc, Bool, true, false, List, [], ◌∷◌, ◌++◌, min, nat_lt}
use Rattle.std.specs.Prelude.{◌||◌}
use Rattle.connections.specs.Connections.{Change, Entry}
use Rattle.connections.specs.Connections.{At, Committed, Uncommitted}
use Rattle.connections.specs.Connections.{Opened, Reserved, Came, Ended, Asked, Lacked, Answered}
use Rattle.connections.specs.Connections.{Logged, CutOff, Took, Gone}
use Rattle.connections.specs.declared.table.Outcome.{Outcome}
use Rattle.connections.specs.declared.table.Outcome.TheVariants as did
use Rattle.connection_loop.specs.Acts.{Act}
use Rattle.connection_loop.specs.Acts.{Waited, Told, Accepted, NoneWaits, NotAccepted, Queued}
use Rattle.connection_loop.specs.Acts.{Read, ReadEnd, ReadNothing, ReadFailed, Wrote, WroteNothing, WriteFailed}
use Rattle.connection_loop.specs.Acts.{Closed, Warned}
use Rattle.connection_loop.specs.declared.course.Course.{Course}
use Rattle.connection_loop.specs.declared.TheConstants.{LONGEST_PAUSE, MOST}

-- A `Happening` is a call of the sockets; an entry of the table without a call; or the end of a round, with what it did
-- and the slot at which the next one begins.
pub data Happening : Type 0 where
  Call : (act : Act) → Happening
  Did : (entry : Entry) → Happening
  Rounded : (outcome : Outcome) → (next : ℕ) → Happening

-- `longer pause` is the pause after a failure to accept that follows the pause `pause`, 0 if it follows none.
abbrev pub longer : ℕ → ℕ
longer zero = 1
longer (suc n) = min (2 * suc n) LONGEST_PAUSE

-- `after_act c act` is what a loop that remembers `c` remembers after the act:
-- - a wait makes it begin anew: nothing is left to do, and whether clients wait is not known;
-- - a connection that was accepted ends the pauses;
-- - a failure to accept begins a pause;
-- - bytes in either direction, and an end, may leave more to do.
abbrev pub after_act : Course → Act → Course
after_act c (Waited millis went) = record c { busy = false; nobody = false; failed = false; sought = false }
after_act c (Told now) = record c { clock = now }
after_act c (Accepted at) = record c { busy = true; accepted = c.accepted + 1; pause = 0 }
after_act c NoneWaits = record c { nobody = true }
after_act c NotAccepted =
    record c { failed = true; pause = longer c.pause; resume = min (c.clock + longer c.pause) MOST }
after_act c (Queued waits) = record c { sought = waits }
after_act c (Read at bytes) = record c { busy = true }
after_act c (ReadEnd at) = record c { busy = true }
after_act c (ReadNothing at) = c
after_act c (ReadFailed at) = c
after_act c (Wrote at bytes) = record c { busy = true }
after_act c (WroteNothing at) = c
after_act c (WriteFailed at) = c
after_act c (Closed at why) = record c { busy = true }
after_act c (Warned done) = c

-- `is_left outcome` is true if a round with this outcome may leave more to do: if it answered a request.
abbrev pub is_left : Outcome → Bool
is_left did.Quiet = false
is_left did.Answered = true
is_left did.Uncommitted = true

-- `after c h` is what a loop that remembers `c` remembers after the happening `h`. A round that began past the first
-- slot, and went on to the last, leaves the slots before it to do.
abbrev pub after : Course → Happening → Course
after c (Call act) = after_act c act
after c (Did entry) = c
after c (Rounded outcome next) =
    record c { busy = c.busy || is_left outcome || nat_lt next c.from; from = next }

-- `after_all c hs` is what a loop that remembers `c` remembers after the happenings `hs`.
abbrev pub after_all : Course → List Happening → Course
after_all c [] = c
after_all c (h ∷ hs) = after_all (after c h) hs

-- `entry_of now act` is the entry of the table that the act at the time `now` is, if it is one.
abbrev pub entry_of : ℕ → Act → List Entry
entry_of now (Waited millis went) = []
entry_of now (Told later) = []
entry_of now (Accepted at) = At at (Opened now) ∷ []
entry_of now NoneWaits = []
entry_of now NotAccepted = []
entry_of now (Queued waits) = []
entry_of now (Read at bytes) = At at (Came bytes now) ∷ []
entry_of now (ReadEnd at) = At at Ended ∷ []
entry_of now (ReadNothing at) = At at (Asked now) ∷ []
entry_of now (ReadFailed at) = []
entry_of now (Wrote at bytes) = At at (Took bytes now) ∷ []
entry_of now (WroteNothing at) = At at (Asked now) ∷ []
entry_of now (WriteFailed at) = []
entry_of now (Closed at why) = At at (Gone why) ∷ []
entry_of now (Warned done) = []

-- `entries_of c hs` are the entries of the table that the happenings `hs` of a loop that remembers `c` are.
abbrev pub entries_of : Course → List Happening → List Entry
entries_of c [] = []
entries_of c (Call act ∷ hs) = entry_of c.clock act ++ entries_of (after_act c act) hs
entries_of c (Did entry ∷ hs) = entry ∷ entries_of c hs
entries_of c (Rounded outcome next ∷ hs) = entries_of (after c (Rounded outcome next)) hs

-- `calls_of hs` are the calls among the happenings `hs`.
abbrev pub calls_of : List Happening → List Act
calls_of [] = []
calls_of (Call act ∷ hs) = act ∷ calls_of hs
calls_of (Did entry ∷ hs) = calls_of hs
calls_of (Rounded outcome next ∷ hs) = calls_of hs

-- `IsInner change` holds if the sockets do not see the change.
abbrev pub IsInner : Change → Type 0
IsInner (Opened now) = ⊥
IsInner (Reserved now) = Unit {0}
IsInner (Came bytes now) = ⊥
IsInner Ended = ⊥
IsInner (Asked now) = ⊥
IsInner (Lacked needed) = Unit {0}
IsInner (Answered request closes reply line) = Unit {0}
IsInner (Logged line) = Unit {0}
IsInner (CutOff line) = Unit {0}
IsInner (Took bytes now) = ⊥
IsInner (Gone why) = ⊥

-- `AreInner hs` holds if each entry without a call is a change that the sockets do not see, or a commit.
abbrev pub AreInner : List Happening → Type 0
AreInner [] = Unit {0}
AreInner (Call act ∷ hs) = AreInner hs
AreInner (Did (At at change) ∷ hs) = IsInner change × AreInner hs
AreInner (Did Committed ∷ hs) = AreInner hs
AreInner (Did Uncommitted ∷ hs) = AreInner hs
AreInner (Rounded outcome next ∷ hs) = AreInner hs
