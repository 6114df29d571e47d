-- Defines what an act does to the sockets at the slots of a table, and to the writer of warnings.
-- Source: POSIX.1-2017, accept, close, poll, read and write; the contracts of std's readers and writers.
-- Rules of this product: a read or a write changes only the socket of its slot, and what it reports are bytes of that
-- socket; a warning that accepting fails is a line with the address; nothing else is written to its writer.
use Prim.Native.Char.{code}
use Rattle.std.specs.Prelude.{◌≡◌, ◌<◌, ℕ, true, false, List, [], ◌∷◌, ◌++◌, Option, None, Some, codes, length}
use Rattle.std.specs.Prelude.{slice_set, ⊤}
use Rattle.std.specs.Io.KnownBytes.{Appends}
use Rattle.connection_loop.specs.Acts.{Act, Waited, Told, Accepted, NoneWaits, NotAccepted, Queued}
use Rattle.connection_loop.specs.Acts.{Read, ReadEnd, ReadNothing, ReadFailed, Wrote, WroteNothing, WriteFailed}
use Rattle.connection_loop.specs.Acts.{Closed, Warned}
use Rattle.machine.specs.Calls.{Gives, GivesEnd, GivesNothing, Takes, TakesNothing}
use Rattle.machine.specs.Streams.{ChangesAt, Turns, TurnsOrStays}

-- `ended label line` is a label, a line and a line feed.
abbrev pub ended : List ℕ → List ℕ → List ℕ
ended label line = (label ++ line) ++ code "\n" ∷ []

-- `failing_line address` is the warning that accepting a connection at `address` failed, with its line feed.
abbrev pub failing_line : List ℕ → List ℕ
failing_line address = ended (codes "warning: accept failed, trying again: ") address

-- `IsWarned told line act old new` holds if `act` may lead the writer of warnings from `old` to `new`: a warning that
-- was written is `line`. `told` gives the bytes that the writer accepted, if they are known.
abbrev pub IsWarned : {E : Type 0} → (E → Option (List ℕ)) → List ℕ → Act → E → E → Type 0
IsWarned told line (Warned true) old new = Appends (told old) (told new) line
IsWarned told line (Warned false) old new = ⊤
IsWarned told line act old new = new ≡ old

module _ {S : Type 0} where
  -- `IsPut old new` holds if there is a socket afterwards.
  abbrev pub IsPut : Option S → Option S → Type 0
  IsPut old None = ⊥
  IsPut old (Some s) = ⊤

  -- `IsDone left held act old new` holds if `act` may lead the sockets at the slots from `old` to `new`. `left` gives
  -- the bytes that a socket has left, and `held` those that it took, if they are known.
  abbrev pub IsDone : (left held : S → Option (List ℕ)) → Act → List (Option S) → List (Option S) → Type 0
  IsDone left held (Waited millis went) old new = new ≡ old
  IsDone left held (Told now) old new = new ≡ old
  IsDone left held (Accepted at) old new = (at < length old) × ChangesAt at IsPut old new
  IsDone left held NoneWaits old new = new ≡ old
  IsDone left held NotAccepted old new = new ≡ old
  IsDone left held (Queued waits) old new = new ≡ old
  IsDone left held (Read at bytes) old new = ChangesAt at (Turns (Gives left bytes)) old new
  IsDone left held (ReadEnd at) old new = ChangesAt at (Turns (GivesEnd left)) old new
  IsDone left held (ReadNothing at) old new = ChangesAt at (TurnsOrStays (GivesNothing left)) old new
  IsDone left held (ReadFailed at) old new = ChangesAt at (TurnsOrStays (GivesNothing left)) old new
  IsDone left held (Wrote at bytes) old new = ChangesAt at (Turns (Takes held bytes)) old new
  IsDone left held (WroteNothing at) old new = ChangesAt at (TurnsOrStays (TakesNothing held)) old new
  IsDone left held (WriteFailed at) old new = ChangesAt at (TurnsOrStays (TakesNothing held)) old new
  IsDone left held (Closed at why) old new = new ≡ slice_set old at None
  IsDone left held (Warned done) old new = new ≡ old
