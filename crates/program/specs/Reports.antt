-- Defines what a run writes to which stream, and its status. The lines of answers and errors are defined in
-- answer_lines.
-- Source: docs/codes.md, "Statuses of the program".
use Prim.Native.Char.{code}
use Rattle.std.specs.Prelude.{◌≡◌, ◌⊎◌, ℕ, Bool, List, [], ◌∷◌, ◌++◌, if◌then◌else◌, codes, decimal}
use Rattle.program_drills.specs.answer_lines.declared.refusal.Refusal.{Refusal}
use Rattle.program_drills.specs.answer_lines.Refusals.{error_line, no_memory}
use Rattle.program_lines.specs.declared.fault.LineFault.{LineFault}
use Rattle.program_lines.specs.declared.fault.LineFault.TheVariants.{Help, Words, Site, Incomplete, NotText, NoMemory}
use Rattle.program.specs.declared.device.FileFault.{FileFault}
use Rattle.program.specs.declared.device.FileFault.TheVariants as file
use Rattle.program.specs.declared.device.Stream.{Stream}
use Rattle.program.specs.declared.device.Stream.TheVariants.{Answers, Faults}
use Rattle.program.specs.Events.{Event, wrote, printed}

-- `ended line` is `line` and a line feed.
abbrev pub ended : List ℕ → List ℕ
ended line = line ++ code "\n" ∷ []

-- `status_after done status` is `status`, or 3 if the stream failed (`done` is false).
abbrev pub status_after : Bool → ℕ → ℕ
status_after done status = if done then status else 3

-- `taken_report_line count` is the line with the number `count` of applied updates: {"taken":3}
unfoldable pub taken_report_line : ℕ → List ℕ
taken_report_line count = codes "{\"taken\":" ++ decimal count ++ codes "}"

-- `no_memory_line` is the error line of code 1 (out of memory), a constant.
abbrev pub no_memory_line : List ℕ
no_memory_line = codes "{\"error\":{\"code\":1,\"place\":null,\"within\":null}}"

-- The last two arguments of each relation are the events of the rest of a run, over connections of type `L`, and its
-- status. The comments do not name them. If writing fails, the status is 3 instead of the one that a comment gives.
module _ {L G N : Type 0} where
  -- `IsReported stream line status`: `line` is written to `stream`, and the run ends with `status`, or with 3 if
  -- writing fails.
  abbrev pub IsReported : Stream → List ℕ → ℕ → List (Event L G N) → ℕ → Type 0
  IsReported stream line status events end = (done : Bool)
      × (events ≡ wrote stream (ended line) done ∷ [])
      × (end ≡ status_after done status)

  -- `IsAnswerReported line`: `line` is written to standard output, and the run ends with 0.
  abbrev pub IsAnswerReported : List ℕ → List (Event L G N) → ℕ → Type 0
  IsAnswerReported line = IsReported Answers line 0

  -- `AreLinesReported text some_refused`: the lines in `text`, if there are any, are written to standard output, and
  -- the run ends with 1 if `some_refused` (something is rejected), else with 0.
  abbrev pub AreLinesReported : List ℕ → Bool → List (Event L G N) → ℕ → Type 0
  AreLinesReported [] some_refused events end = (events ≡ []) × (end ≡ (if some_refused then 1 else 0))
  AreLinesReported (byte ∷ text) some_refused events end =
      IsReported Answers (byte ∷ text) (if some_refused then 1 else 0) events end

  -- `IsRefusalReported refusal`: the error line of `refusal` is written to standard error, and the run ends with 1.
  abbrev pub IsRefusalReported : Refusal → List (Event L G N) → ℕ → Type 0
  IsRefusalReported refusal = IsReported Faults (error_line refusal) 1

  -- `IsMemoryReported`: out of memory is reported on standard error, by its error line (code 1) or by the constant
  -- `no_memory_line`, and the run ends with 1.
  abbrev pub IsMemoryReported : List (Event L G N) → ℕ → Type 0
  IsMemoryReported events end = IsRefusalReported no_memory events end ⊎ IsReported Faults no_memory_line 1 events end

  -- `IsFailureReported name`: the line `fault: ` with `name` is written to standard error, and the run ends with 3.
  -- `name` names a file that cannot be read or written, or what failed on the network, such as an address.
  abbrev pub IsFailureReported : List ℕ → List (Event L G N) → ℕ → Type 0
  IsFailureReported name = IsReported Faults (codes "fault: " ++ name) 3

  -- `IsFileReported name fault`: the error `fault` of reading or writing the file `name` is reported.
  abbrev pub IsFileReported : List ℕ → FileFault → List (Event L G N) → ℕ → Type 0
  IsFileReported name file.Missing events end = IsFailureReported name events end
  IsFileReported name file.Failed events end = IsFailureReported name events end
  IsFileReported name file.NoMemory events end = IsMemoryReported events end

  -- `IsPrinted stream fault status`: the text of `fault`, an error of the command line, is written to `stream`, and the
  -- run ends with `status`, or with 3 if writing fails.
  abbrev pub IsPrinted : Stream → LineFault → ℕ → List (Event L G N) → ℕ → Type 0
  IsPrinted stream fault status events end = (done : Bool)
      × (events ≡ printed stream fault done ∷ [])
      × (end ≡ status_after done status)

  -- `IsFaultReported fault`: if `fault` is the help or the version, it is written to standard output, and the run ends
  -- with 0. Out of memory is reported by `IsMemoryReported`. Any other error of the command line is written to standard
  -- error, and the run ends with 2.
  abbrev pub IsFaultReported : LineFault → List (Event L G N) → ℕ → Type 0
  IsFaultReported (Help error) events end = IsPrinted Answers (Help error) 0 events end
  IsFaultReported (Words error) events end = IsPrinted Faults (Words error) 2 events end
  IsFaultReported Site events end = IsPrinted Faults Site 2 events end
  IsFaultReported Incomplete events end = IsPrinted Faults Incomplete 2 events end
  IsFaultReported NotText events end = IsPrinted Faults NotText 2 events end
  IsFaultReported NoMemory events end = IsMemoryReported events end
