-- Defines the steps of runs: reading files, writing one, opening a connection or a log, reporting the outcome.
-- Source: docs/operating.md.
-- Rules of this product: after an error no further file is read.
use Rattle.std.specs.Prelude.{◌≡◌, ◌⊎◌, ℕ, Bool, true, false, List, [], ◌∷◌, ◌++◌, Option, None, Some, Result, Ok, Err}
use Rattle.program_drills.specs.answer_lines.declared.refusal.Refusal.{Refusal}
use Rattle.program.specs.declared.device.FileFault.{FileFault}
use Rattle.program.specs.declared.device.FileFault.TheVariants as file
use Rattle.program.specs.Events.{Event, read, stored, wrote, connected, log_closed, opened}
use Rattle.program.specs.declared.device.Stream.TheVariants.{Answers, Faults}
use Rattle.program.specs.Reports.{ended, IsAnswerReported, IsRefusalReported, IsMemoryReported, IsFileReported}
use Rattle.program.specs.Reports.{IsFailureReported}

-- A `Course` is a relation between the events of the rest of a run and its status. A sentence on a course does not name
-- these two arguments.
abbrev pub Course : Type 0 → Type 0 → Type 0 → Type 1
Course L G N = List (Event L G N) → ℕ → Type 0

-- An example: `drill` reads the files `s` and `t`, a schema and a script, and prints the output of the script, or the
-- error: `Reads s (λ schema. Reads t (λ script. IsLineOrRefusal ..))`. Such runs are, with their status:
--   read s (Ok schema) ∷ read t (Ok script) ∷ wrote Answers (ended line) true ∷ [], 0: the lines are printed
--   the same with false, 3: standard output failed
--   read s (Ok schema) ∷ read t (Ok script) ∷ wrote Faults (ended (error_line refusal)) true ∷ [], 1: rejected
--   read s (Ok schema) ∷ read t (Err Missing) ∷ wrote Faults "fault: t" and a line feed, true ∷ [], 3: no file `t`
-- Each step removes the first event and passes the rest to the next step, `goes_on`.

module _ {L G N : Type 0} where
  -- `IsRefusedFor Refused`: an error for which `Refused` holds, or out of memory, is reported.
  abbrev pub IsRefusedFor : (Refusal → Type 0) → Course L G N
  IsRefusedFor Refused events end =
      ((refusal : Refusal) × Refused refusal × IsRefusalReported refusal events end) ⊎ IsMemoryReported events end

  -- `IsLineOrRefusal Decided Refused`: a line for which `Decided` holds is printed, or an error for which `Refused`
  -- holds, or out of memory, is reported.
  abbrev pub IsLineOrRefusal : (List ℕ → Type 0) → (Refusal → Type 0) → Course L G N
  IsLineOrRefusal Decided Refused events end =
      ((line : List ℕ) × Decided line × IsAnswerReported line events end) ⊎ IsRefusedFor Refused events end

  -- `GoesOnWith name goes_on came`: the run goes on by `goes_on` with the bytes `came` of the file `name`; if `came` is
  -- an error, the error is reported and the run ends.
  abbrev pub GoesOnWith : List ℕ → (List ℕ → Course L G N) → Result (List ℕ) FileFault → Course L G N
  GoesOnWith name goes_on (Ok bytes) = goes_on bytes
  GoesOnWith name goes_on (Err fault) = IsFileReported name fault

  -- `Reads name goes_on`: the file `name` is read, and the run goes on by `goes_on` with its bytes, or reports the
  -- error and ends.
  abbrev pub Reads : List ℕ → (List ℕ → Course L G N) → Course L G N
  Reads name goes_on events end = (came : Result (List ℕ) FileFault) × (rest : List (Event L G N))
      × (events ≡ read name came ∷ rest) × GoesOnWith name goes_on came rest end

  -- `ReadsIfNamed name goes_on`: the file `name` is read, if the name is present, and the run goes on by `goes_on` with
  -- its bytes, or with `None`; or the run reports the error and ends.
  abbrev pub ReadsIfNamed : Option (List ℕ) → (Option (List ℕ) → Course L G N) → Course L G N
  ReadsIfNamed None goes_on = goes_on None
  ReadsIfNamed (Some name) goes_on = Reads name (λ bytes. goes_on (Some bytes))

  -- `GoesOnIfThere name goes_on came`: like `GoesOnWith name goes_on came`, but if the file is missing, the run goes on
  -- by `goes_on` with `None`.
  abbrev pub GoesOnIfThere : List ℕ → (Option (List ℕ) → Course L G N) → Result (List ℕ) FileFault → Course L G N
  GoesOnIfThere name goes_on (Ok bytes) = goes_on (Some bytes)
  GoesOnIfThere name goes_on (Err file.Missing) = goes_on None
  GoesOnIfThere name goes_on (Err file.Failed) = IsFileReported name file.Failed
  GoesOnIfThere name goes_on (Err file.NoMemory) = IsFileReported name file.NoMemory

  -- `ReadsIfThere name goes_on`: the file `name` is read if it exists, and the run goes on by `goes_on` with its bytes,
  -- or with `None`; or the run reports the error and ends.
  abbrev pub ReadsIfThere : List ℕ → (Option (List ℕ) → Course L G N) → Course L G N
  ReadsIfThere name goes_on events end = (came : Result (List ℕ) FileFault) × (rest : List (Event L G N))
      × (events ≡ read name came ∷ rest) × GoesOnIfThere name goes_on came rest end

  -- `GoesOnWritten name goes_on came`: the run goes on by `goes_on` if the file `name` was written; if `came` is an
  -- error, it is reported and the run ends.
  abbrev pub GoesOnWritten : List ℕ → Course L G N → Result (Unit {0}) FileFault → Course L G N
  GoesOnWritten name goes_on (Ok done) = goes_on
  GoesOnWritten name goes_on (Err fault) = IsFileReported name fault

  -- `Stores name bytes goes_on`: `bytes` are written into the file `name`, and the run goes on by `goes_on`, or reports
  -- the error and ends.
  abbrev pub Stores : List ℕ → List ℕ → Course L G N → Course L G N
  Stores name bytes goes_on events end = (came : Result (Unit {0}) FileFault) × (rest : List (Event L G N))
      × (events ≡ stored name bytes came ∷ rest) × GoesOnWritten name goes_on came rest end

  -- `GoesOnConnected address goes_on came`: the run goes on by `goes_on` over the connection in `came`; without one,
  -- `address` is reported and the run ends.
  abbrev pub GoesOnConnected : List ℕ → (L → Course L G N) → Option L → Course L G N
  GoesOnConnected address goes_on (Some link) = goes_on link
  GoesOnConnected address goes_on None = IsFailureReported address

  -- `Connects address goes_on`: a connection to `address` is opened, and the run goes on over it by `goes_on`, or
  -- reports the error and ends.
  abbrev pub Connects : List ℕ → (L → Course L G N) → Course L G N
  Connects address goes_on events end = (came : Option L) × (rest : List (Event L G N))
      × (events ≡ connected address came ∷ rest) × GoesOnConnected address goes_on came rest end

  -- `GoesOnOpened name goes_on came`: the run goes on by `goes_on` with the log in `came`; without one, the log's name,
  -- `name`, is reported and the run ends.
  abbrev pub GoesOnOpened : List ℕ → (Option G → Course L G N) → Option G → Course L G N
  GoesOnOpened name goes_on (Some log) = goes_on (Some log)
  GoesOnOpened name goes_on None = IsFailureReported name

  -- `OpensIfNamed o goes_on`: the log with the name in `o` is opened, if there is a name, and the run goes on by
  -- `goes_on` with it, or with `None`; or the run reports the error and ends.
  abbrev pub OpensIfNamed : Option (List ℕ) → (Option G → Course L G N) → Course L G N
  OpensIfNamed None goes_on events end = goes_on None events end
  OpensIfNamed (Some name) goes_on events end = (came : Option G) × (rest : List (Event L G N))
      × (events ≡ opened name came ∷ rest) × GoesOnOpened name goes_on came rest end

  -- `closing o` are the events of closing the log in `o`, if there is one.
  abbrev pub closing : Option G → List (Event L G N)
  closing None = []
  closing (Some log) = log_closed log ∷ []

  -- `ClosesAfter goes_on`: the run goes on by `goes_on left`, where `left` is the log at the end of it, if there is a
  -- log; then the log is closed, and the run ends.
  abbrev pub ClosesAfter : (Option G → Course L G N) → Course L G N
  ClosesAfter goes_on events end = (left : Option G) × (first : List (Event L G N)) × goes_on left first end
      × (events ≡ first ++ closing left)

  -- `GoesOnAnnounced goes_on done`: the run goes on by `goes_on` if the line was written (`done`); else it ends with
  -- status 3.
  abbrev pub GoesOnAnnounced : Course L G N → Bool → Course L G N
  GoesOnAnnounced goes_on true events end = goes_on events end
  GoesOnAnnounced goes_on false events end = (events ≡ []) × (end ≡ 3)

  -- `Announces line goes_on`: `line` is written to standard output, and the run goes on by `goes_on`; if writing fails,
  -- the run ends with status 3.
  abbrev pub Announces : List ℕ → Course L G N → Course L G N
  Announces line goes_on events end = (done : Bool) × (rest : List (Event L G N))
      × (events ≡ wrote Answers (ended line) done ∷ rest) × GoesOnAnnounced goes_on done rest end

  -- `WarnsIf b line goes_on`: if `b`, `line` is written to standard error first; the run goes on by `goes_on` even if
  -- that fails.
  abbrev pub WarnsIf : Bool → List ℕ → Course L G N → Course L G N
  WarnsIf false line goes_on events end = goes_on events end
  WarnsIf true line goes_on events end = (done : Bool) × (rest : List (Event L G N))
      × (events ≡ wrote Faults (ended line) done ∷ rest) × goes_on rest end
