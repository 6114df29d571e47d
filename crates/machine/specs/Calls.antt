-- Defines what a read or a write of one socket reports.
-- Source: POSIX.1-2017, read and write: a call moves at most as many bytes as its buffer has; the contracts of std's
-- readers and writers.
use Rattle.std.specs.Prelude.{◌≤◌, ◌<◌, ℕ, List, [], Option, length, take}
use Rattle.std.specs.Io.KnownBytes.{Appends, Consumes, IsAtEnd, Keeps}
use Rattle.connection_loop.specs.declared.sockets.Reading.{Reading}
use Rattle.connection_loop.specs.declared.sockets.Reading.TheVariants as reading
use Rattle.connection_loop.specs.declared.sockets.Writing.{Writing}
use Rattle.connection_loop.specs.declared.sockets.Writing.TheVariants as writing
use Rattle.machine.specs.Streams.{Turns, TurnsOrStays}

module _ {S : Type 0} (left : S → Option (List ℕ)) where
  -- `Gives bytes old new` holds if a socket gave `bytes`; `left` are those that it has left, if they are known.
  abbrev pub Gives : List ℕ → S → S → Type 0
  Gives bytes old new = Consumes (left old) (left new) bytes

  -- `GivesEnd old new` holds if a socket has nothing left.
  abbrev pub GivesEnd : S → S → Type 0
  GivesEnd old new = Consumes (left old) (left new) [] × IsAtEnd (left new)

  -- `GivesNothing old new` holds if what a socket has left did not change.
  abbrev pub GivesNothing : S → S → Type 0
  GivesNothing old new = Keeps (left old) (left new)

  -- `IsReadOnce r buf old new` holds if a read of a socket gave `r`, with the bytes at the front of `buf`.
  abbrev pub IsReadOnce : Reading → List ℕ → S → S → Type 0
  IsReadOnce (reading.Bytes n) buf old new = (0 < n) × (n ≤ length buf) × Gives (take n buf) old new
  IsReadOnce reading.End buf old new = GivesEnd old new
  IsReadOnce reading.NotYet buf old new = GivesNothing old new
  IsReadOnce reading.Broken buf old new = GivesNothing old new

  -- `IsReadHere r buf old new` holds if a read at a slot gave `r`. Without a socket, or if none was tried, it gave
  -- nothing.
  abbrev pub IsReadHere : Reading → List ℕ → Option S → Option S → Type 0
  IsReadHere (reading.Bytes n) buf old new = (0 < n) × (n ≤ length buf) × Turns (Gives (take n buf)) old new
  IsReadHere reading.End buf old new = Turns GivesEnd old new
  IsReadHere reading.NotYet buf old new = TurnsOrStays GivesNothing old new
  IsReadHere reading.Broken buf old new = TurnsOrStays GivesNothing old new

module _ {S : Type 0} (held : S → Option (List ℕ)) where
  -- `Takes bytes old new` holds if a socket took `bytes`; `held` are those that it took, if they are known.
  abbrev pub Takes : List ℕ → S → S → Type 0
  Takes bytes old new = Appends (held old) (held new) bytes

  -- `TakesNothing old new` holds if what a socket took did not change.
  abbrev pub TakesNothing : S → S → Type 0
  TakesNothing old new = Keeps (held old) (held new)

  -- `IsWrittenOnce w bytes old new` holds if a write of `bytes` to a socket gave `w`.
  abbrev pub IsWrittenOnce : Writing → List ℕ → S → S → Type 0
  IsWrittenOnce (writing.Bytes n) bytes old new = (0 < n) × (n ≤ length bytes) × Takes (take n bytes) old new
  IsWrittenOnce writing.NotYet bytes old new = TakesNothing old new
  IsWrittenOnce writing.Broken bytes old new = TakesNothing old new

  -- `IsWrittenHere w bytes old new` holds if a write of `bytes` at a slot gave `w`. Without a socket, or if none was
  -- tried, it took nothing.
  abbrev pub IsWrittenHere : Writing → List ℕ → Option S → Option S → Type 0
  IsWrittenHere (writing.Bytes n) bytes old new = (0 < n) × (n ≤ length bytes) × Turns (Takes (take n bytes)) old new
  IsWrittenHere writing.NotYet bytes old new = TurnsOrStays TakesNothing old new
  IsWrittenHere writing.Broken bytes old new = TurnsOrStays TakesNothing old new
