-- Defines the acts of a loop on its sockets: what each call was given, and what it gave.
-- Source: POSIX.1-2017, accept, clock_gettime, close, poll, read and write.
-- Rules of this product: a slot of the table of connections has one socket; no call but a wait blocks.
use Rattle.std.specs.Prelude.{◌≡◌, ◌≤◌, ◌<◌, ℕ, Bool, true, false, List, [], ◌∷◌, Option, Result, Ok, Err, length, take}
use Rattle.connections.specs.declared.slot.Reason.{Reason}
use Rattle.connection_loop.specs.declared.sockets.NetworkFailed.{NetworkFailed}
use Rattle.connection_loop.specs.declared.sockets.Reading.{Reading}
use Rattle.connection_loop.specs.declared.sockets.Reading.TheVariants as reading
use Rattle.connection_loop.specs.declared.sockets.Writing.{Writing}
use Rattle.connection_loop.specs.declared.sockets.Writing.TheVariants as writing

-- An `Act` is one call: a wait of at most so many milliseconds, if any are given, and whether it succeeded; the time
-- that the clock told; a connection that was accepted at a slot, or that none waits, or that accepting failed; whether
-- a client waits to be accepted; of one socket, the bytes that a read gave, that its client sends no more, that there
-- is nothing yet, or that the read failed; the bytes that a write took, that it takes nothing yet, or that the write
-- failed; a socket that was closed, and why; a warning that accepting fails, and whether it was written.
pub data Act : Type 0 where
  Waited : (millis : Option ℕ) → (went : Bool) → Act
  Told : (now : ℕ) → Act
  Accepted : (at : ℕ) → Act
  NoneWaits : Act
  NotAccepted : Act
  Queued : (waits : Bool) → Act
  Read : (at : ℕ) → (bytes : List ℕ) → Act
  ReadEnd : (at : ℕ) → Act
  ReadNothing : (at : ℕ) → Act
  ReadFailed : (at : ℕ) → Act
  Wrote : (at : ℕ) → (bytes : List ℕ) → Act
  WroteNothing : (at : ℕ) → Act
  WriteFailed : (at : ℕ) → Act
  Closed : (at : ℕ) → (why : Reason) → Act
  Warned : (done : Bool) → Act

module _ {N : Type 0} (does : N → Act → N → Type 0) where
  -- `AreDone acts old new` holds if the acts, one after another, lead from the state `old` of the sockets to `new`.
  abbrev pub AreDone : List Act → N → N → Type 0
  AreDone [] old new = new ≡ old
  AreDone (act ∷ acts) old new = (mid : N) × does old act mid × AreDone acts mid new

  -- `IsTried at old result new` holds if a call to accept a connection at the slot `at` gave `result`.
  abbrev pub IsTried : ℕ → N → Result Bool NetworkFailed → N → Type 0
  IsTried at old (Ok true) new = does old (Accepted at) new
  IsTried at old (Ok false) new = does old NoneWaits new
  IsTried at old (Err failed) new = does old NotAccepted new

  -- `IsRead at old result buf new` holds if a read at the slot `at` gave `result`, with the bytes at the front of
  -- `buf`.
  abbrev pub IsRead : ℕ → N → Reading → List ℕ → N → Type 0
  IsRead at old (reading.Bytes n) buf new = (0 < n) × (n ≤ length buf) × does old (Read at (take n buf)) new
  IsRead at old reading.End buf new = does old (ReadEnd at) new
  IsRead at old reading.NotYet buf new = does old (ReadNothing at) new
  IsRead at old reading.Broken buf new = does old (ReadFailed at) new

  -- `IsWritten at old bytes result new` holds if a write of `bytes` at the slot `at` gave `result`.
  abbrev pub IsWritten : ℕ → N → List ℕ → Writing → N → Type 0
  IsWritten at old bytes (writing.Bytes n) new = (0 < n) × (n ≤ length bytes) × does old (Wrote at (take n bytes)) new
  IsWritten at old bytes writing.NotYet new = does old (WroteNothing at) new
  IsWritten at old bytes writing.Broken new = does old (WriteFailed at) new
