-- Defines the steps of a run that reads a file: the file was read; or it was not, and the run reports that.
use Rattle.std.specs.Prelude.{◌≡◌, ℕ, List, ◌∷◌, Option, None, Some, Result, Ok, Err}
use Rattle.program.specs.declared.device.FileFault.{FileFault}
use Rattle.program.specs.declared.device.FileFault.TheVariants.{Missing}
use Rattle.program.specs.Events.{Event, read}
use Rattle.program.specs.Reports.{IsFileReported}
use Rattle.program.specs.Courses.{Course}

-- `found_as o` is the result of reading a file with the content in `o`; if `o` is `None`, the file is missing.
abbrev pub found_as : Option (List ℕ) → Result (List ℕ) FileFault
found_as None = Err Missing
found_as (Some bytes) = Ok bytes

-- `IsFound does name found old new` holds if, by `does`, reading the file `name` with the content `found` leads from
-- the state `old` of the machine to `new`; or if `name` and `found` are `None`, and `new` is `old`.
abbrev pub IsFound : {L G N H : Type 0} → (H → Event L G N → H → Type 0) → Option (List ℕ) → Option (List ℕ) → H → H
    → Type 0
IsFound does None None old new = new ≡ old
IsFound does (Some name) (Some bytes) old new = does old (read name (Ok bytes)) new
IsFound does _ _ old new = ⊥

module _ {L G N : Type 0} where
  -- `IsUnread name`: the file `name` was not read, and the run reports that.
  abbrev pub IsUnread : List ℕ → Course L G N
  IsUnread name events end = (fault : FileFault) × (rest : List (Event L G N)) × (events ≡ read name (Err fault) ∷ rest)
      × IsFileReported name fault rest end

  -- `IsFailedRead name`: the file `name` was not read, with an error other than `Missing`, and the run reports
  -- that.
  abbrev pub IsFailedRead : List ℕ → Course L G N
  IsFailedRead name events end = (fault : FileFault) × (rest : List (Event L G N)) × (fault ≡ Missing → ⊥)
      × (events ≡ read name (Err fault) ∷ rest) × IsFileReported name fault rest end

  -- `IsUnreadIfNamed name`: the name `name` is present, but the file was not read, and the run reports that.
  abbrev pub IsUnreadIfNamed : Option (List ℕ) → Course L G N
  IsUnreadIfNamed None events end = ⊥
  IsUnreadIfNamed (Some name) events end = IsUnread name events end
