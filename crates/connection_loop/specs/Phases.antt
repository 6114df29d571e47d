-- Defines phases of a loop over many connections, one after another, and what leads through them.
-- Source: RFC 9112, section 9.3 (one after another, in order).
-- Rules of this product: one list has all that happens, in its order: the calls of the sockets, the entries of the
-- table, the steps of the service and the lines of the log.
use Rattle.std.specs.Prelude.{◌≡◌, ℕ, zero, suc, List, [], ◌++◌, length}
use Rattle.connections.specs.Connections.{AreChanges, Change, Connection, Entry}
use Rattle.connections.specs.Connections.{Opened, Reserved, Came, Ended, Asked, Lacked, Answered}
use Rattle.connections.specs.Connections.{Logged, CutOff, Took, Gone}
use Rattle.connections.specs.Rounds.{AreAll}
use Rattle.connections.specs.Steps.{Leads}
use Rattle.connection_loop.specs.Acts.{Act, AreDone}
use Rattle.connection_loop.specs.Happenings.{AreInner, Happening, after_all, calls_of, entries_of}
use Rattle.connection_loop.specs.declared.course.Course.{Course}

-- A `Phase` relates what a loop remembers, the table, and the happenings from there on.
abbrev pub Phase : Type 1
Phase = Course → List Connection → List Happening → Type 0

-- `Then P Q c table hs` holds if `hs` are the happenings of the phase `P`, and then those of `Q` in the table to which
-- `P` leads.
pub record Then (P Q : Phase) (c : Course) (table : List Connection) (hs : List Happening) : Type 0 where
  pub first : List Happening
  pub later : List Happening
  pub mid : List Connection
  pub is : hs ≡ first ++ later
  pub is_first : P c table first
  pub changes : AreChanges (entries_of c first) table mid
  pub is_later : Q (after_all c first) mid later

-- `IsNothing c table hs` holds if nothing happens.
abbrev pub IsNothing : Phase
IsNothing c table hs = hs ≡ []

-- `AtEach P n` is the phase of the phases `P 0` to `P (n - 1)`, one after another.
abbrev pub AtEach : (ℕ → Phase) → ℕ → Phase
AtEach P zero = IsNothing
AtEach P (suc n) = Then (AtEach P n) (P n)

-- `Each P` is the phase of the phases `P at` at all slots `at` of the table, from the first to the last.
abbrev pub Each : (ℕ → Phase) → Phase
Each P c table hs = AtEach P (length table) c table hs

-- `IsOuter change` holds if neither the service nor the log has a part in the change.
abbrev pub IsOuter : Change → Type 0
IsOuter (Opened now) = Unit {0}
IsOuter (Reserved now) = Unit {0}
IsOuter (Came bytes now) = Unit {0}
IsOuter Ended = Unit {0}
IsOuter (Asked now) = Unit {0}
IsOuter (Lacked needed) = ⊥
IsOuter (Answered request closes reply line) = ⊥
IsOuter (Logged line) = ⊥
IsOuter (CutOff line) = ⊥
IsOuter (Took bytes now) = Unit {0}
IsOuter (Gone why) = Unit {0}

-- `Moves does P old table first new table2 last` holds if the happenings of the phase `P` lead from what the loop
-- remembered, `old`, the table `table` and the sockets `first` to `new`, `table2` and `last`; without the service and
-- the log.
pub record Moves {N : Type 0} (does : N → Act → N → Type 0) (P : Phase)
    (old : Course) (table : List Connection) (first : N) (new : Course) (table2 : List Connection) (last : N)
    : Type 0 where
  pub happenings : List Happening
  pub course : new ≡ after_all old happenings
  pub changes : AreChanges (entries_of old happenings) table table2
  pub calls : AreDone does (calls_of happenings) first last
  pub inner : AreInner happenings
  pub outer : AreAll IsOuter (entries_of old happenings)
  pub are : P old table happenings

-- A `State` is what a loop remembers, and the states of the table, the service, the log and the sockets.
pub record State (S L N : Type 0) : Type 0 where
  pub course : Course
  pub table : List Connection
  pub service : S
  pub log : L
  pub sockets : N

-- `Goes steps notes does P old new` holds if the happenings of the phase `P` lead from the state `old` to `new`, where
-- the service takes `steps`, the log `notes`, and each call of the sockets is one that `does` permits:
-- - course: the loop remembers exactly what happened.
-- - leads: the entries among the happenings change the table, the service and the log.
-- - calls: the calls among the happenings are those that were made, in this order.
-- - inner: what the sockets see of the table is a call.
pub record Goes {S L N : Type 0} (steps : S → Entry → S → Type 0) (notes : L → Entry → L → Type 0)
    (does : N → Act → N → Type 0) (P : Phase) (old new : State S L N) : Type 0 where
  pub happenings : List Happening
  pub course : new.course ≡ after_all old.course happenings
  pub leads : Leads steps notes (entries_of old.course happenings) old.table old.service old.log
      new.table new.service new.log
  pub calls : AreDone does (calls_of happenings) old.sockets new.sockets
  pub inner : AreInner happenings
  pub are : P old.course old.table happenings
