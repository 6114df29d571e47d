-- Defines the events of a run: files read and written, output, connections, sockets and logs.
-- Source: docs/operating.md; the contracts of std's files and streams.
use Rattle.std.specs.Prelude.{◌≡◌, ℕ, Bool, true, false, List, [], ◌∷◌, Option, Result}
use Rattle.std.specs.Io.KnownBytes.{Appends}
use Rattle.program_lines.specs.declared.fault.LineFault.{LineFault}
use Rattle.program.specs.declared.device.FileFault.{FileFault}
use Rattle.program.specs.declared.device.Stream.{Stream}
use Rattle.program.specs.declared.device.Stream.TheVariants.{Answers, Faults}

-- An `Event` is one thing that a run does, over connections of type `L` to other sites, logs of type `G`, and sockets
-- of type `N` of a served site.
pub data Event (L G N : Type 0) : Type 0 where
  -- the file with this name had these bytes, or could not be read
  read : List ℕ → Result (List ℕ) FileFault → Event L G N
  -- these bytes were written into the file with this name, or could not be
  stored : List ℕ → List ℕ → Result (Unit {0}) FileFault → Event L G N
  -- the log of this name was opened in this state, or could not be
  opened : List ℕ → Option G → Event L G N
  -- a log was closed in this state
  log_closed : G → Event L G N
  -- all of these bytes were written to a stream, or the stream failed
  wrote : Stream → List ℕ → Bool → Event L G N
  -- all of the text of the help, the version or an error of the command line was written to a stream, or the stream
  -- failed
  printed : Stream → LineFault → Bool → Event L G N
  -- this connection to this address was opened, or none could be
  connected : List ℕ → Option L → Event L G N
  -- a connection was closed in this state
  closed : L → Event L G N
  -- the run began to listen at this address, for at most so many connections at once, with these sockets, or could not
  listened : List ℕ → ℕ → Option N → Event L G N
  -- the sockets of a served site were closed in this state
  sockets_closed : N → Event L G N

module _ {L G N H : Type 0} (does : H → Event L G N → H → Type 0) where
  -- `Does events old new` holds if `events`, in order, lead from the state `old` of the machine to `new`.
  abbrev pub Does : List (Event L G N) → H → H → Type 0
  Does [] old new = new ≡ old
  Does (event ∷ events) old new = (next : H) × does old event next × Does events next new

  -- `Runs old new described` holds if some events for which `described` holds lead from `old` to `new`.
  abbrev pub Runs : H → H → (List (Event L G N) → Type 0) → Type 0
  Runs old new described = (events : List (Event L G N)) × Does events old new × described events

-- `Changes held told out err event new_out new_err` holds if `event` may lead the two standard streams from `out` and
-- `err` to `new_out` and `new_err`: `wrote` and `printed` leave the other stream unchanged, and every other event
-- leaves both unchanged. `held` and `told` give the bytes that the streams accepted, if they are known. `Changes` does
-- not constrain the content of a file, the text of an error, how much a stream accepted before it failed, or what is
-- read from a connection. Nor does it constrain the lines of a log on standard output: the log has its own writer of
-- standard output, so the log's lines leave `out` unchanged, and may occur there between the bytes of `out`; so may the
-- warnings of sockets on standard error, between the bytes of `err`.
abbrev pub Changes : {L G N O E : Type 0} → (O → Option (List ℕ)) → (E → Option (List ℕ)) → O → E → Event L G N
    → O → E → Type 0
Changes held told out err (read name bytes) new_out new_err = (new_out ≡ out) × (new_err ≡ err)
Changes held told out err (stored name bytes done) new_out new_err = (new_out ≡ out) × (new_err ≡ err)
Changes held told out err (opened name came) new_out new_err = (new_out ≡ out) × (new_err ≡ err)
Changes held told out err (log_closed log) new_out new_err = (new_out ≡ out) × (new_err ≡ err)
Changes held told out err (connected address came) new_out new_err = (new_out ≡ out) × (new_err ≡ err)
Changes held told out err (listened address clients came) new_out new_err = (new_out ≡ out) × (new_err ≡ err)
Changes held told out err (closed link) new_out new_err = (new_out ≡ out) × (new_err ≡ err)
Changes held told out err (sockets_closed sockets) new_out new_err = (new_out ≡ out) × (new_err ≡ err)
Changes held told out err (wrote Answers bytes true) new_out new_err =
    Appends (held out) (held new_out) bytes × (new_err ≡ err)
Changes held told out err (wrote Answers bytes false) new_out new_err = new_err ≡ err
Changes held told out err (wrote Faults bytes true) new_out new_err =
    Appends (told err) (told new_err) bytes × (new_out ≡ out)
Changes held told out err (wrote Faults bytes false) new_out new_err = new_out ≡ out
Changes held told out err (printed Answers fault done) new_out new_err = new_err ≡ err
Changes held told out err (printed Faults fault done) new_out new_err = new_out ≡ out
