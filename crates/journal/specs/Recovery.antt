-- Defines what is recovered from a file, the faults of a file, and the calls of an opening.
-- Rules of this product: the lines up to the first without a right checksum are records, and their updates are applied
-- in order. What follows is torn, and cut off before anything is appended; but if a later line has a right checksum,
-- the middle is damaged, and nothing is changed. A file without records gets the header.
use Rattle.std.specs.Prelude.{◌≡◌, ◌≢◌, ◌≤◌, ℕ, Bool, true, false, ◌⊎◌, List, [], ◌∷◌, ◌++◌, length, take}
use Rattle.std.specs.Prelude.{Result, Ok, Err}
use Rattle.stamped_store.specs.Store.{Store, Update, store_of, updates}
use Rattle.journal.specs.declared.fault.RecoveryFault.{RecoveryFault}
use Rattle.journal.specs.declared.fault.RecoveryFault.TheVariants.{NoMemory, NoRecord, Damaged, Failed}
use Rattle.journal.specs.Events.{Event}
use Rattle.journal.specs.Events as event
use Rattle.journal.specs.Lines.{AreLines, IsLine, whole_lines, written}
use Rattle.journal.specs.Records.{AreStated, Holds}
use Rattle.journal.specs.Rounds.{IsRecording}

-- `HasChecked checked lines` holds if some line of `lines` has a right checksum.
abbrev pub HasChecked : (List ℕ → Bool) → List (List ℕ) → Type 0
HasChecked checked lines = (before after : List (List ℕ)) × (line : List ℕ) × (lines ≡ before ++ line ∷ after)
    × (checked line ≡ true)

-- `IsSettling end events done` holds if `events` are a sync and a cut after `end` bytes, up to the first that failed;
-- `done` is whether both succeeded.
abbrev pub IsSettling : ℕ → List Event → Bool → Type 0
IsSettling end events true = events ≡ event.sync true ∷ event.cut end true ∷ []
IsSettling end events false = (events ≡ event.sync false ∷ []) ⊎ (events ≡ event.sync true ∷ event.cut end false ∷ [])

-- `states line us` relates a record to the updates that it states.
module _ (states : List ℕ → List Update → Type 0) where
  -- `IsBeginning end events done` holds if `events` record a header if `end` is 0, up to the first call that failed;
  -- and is empty otherwise. `done` is whether all succeeded.
  abbrev pub IsBeginning : ℕ → List Event → Bool → Type 0
  IsBeginning end events done = ((end ≢ 0) × (events ≡ []) × (done ≡ true))
      ⊎ ((end ≡ 0) × ((line : List ℕ) × IsLine line × states line [] × IsRecording (line ++ 10 ∷ []) events done))

  -- `IsOpening end events done` holds if `events` settle a file whose records are its first `end` bytes, and begin one
  -- without records, up to the first call that failed or a header that was not allocated; `done` is whether all is
  -- done.
  abbrev pub IsOpening : ℕ → List Event → Bool → Type 0
  IsOpening end events true = (settling begun : List Event) × IsSettling end settling true
      × IsBeginning end begun true × (events ≡ settling ++ begun)
  IsOpening end events false = IsSettling end events false ⊎ (IsSettling end events true
      ⊎ ((settling begun : List Event) × IsSettling end settling true
      × IsBeginning end begun false × (events ≡ settling ++ begun)))

-- `checked line` tests whether a line has a right checksum.
module _ (states : List ℕ → List Update → Type 0) (checked : List ℕ → Bool) where
  -- `IsRecovered s t file end` holds if the first whole lines of `file` are records of some updates, whose store with
  -- those of `s` is `t`, `end` is the length of these lines, and no later line has a right checksum.
  pub record IsRecovered (s t : Store) (file : List ℕ) (end : ℕ) : Type 0 where
    pub found : List Update
    pub holds : Holds states checked file found
    pub clean : AreLines holds.records
    pub store : t ≡ store_of (updates s ++ found)
    pub within : end ≤ length file
    pub whole : take end file ≡ written holds.records

  -- `IsFaultAt file at line after` holds if the lines of `file` before the offset `at` are records, the line at this
  -- offset is `line`, and `after` follows its line feed.
  pub record IsFaultAt (file : List ℕ) (at : ℕ) (line after : List ℕ) : Type 0 where
    pub records : List (List ℕ)
    pub found : List Update
    pub clean : AreLines records
    pub stated : AreStated states records found
    pub place : at ≡ length (written records)
    pub is_line : IsLine line
    pub split : file ≡ written records ++ (line ++ 10 ∷ after)

  -- `IsRecoveryFault file result` states when a file is refused. `NoRecord at`: behind records, the line at the offset
  -- `at` has a right checksum, and is not a record. `Damaged at`: the line at the offset has no right checksum, but a
  -- later line has.
  abbrev pub IsRecoveryFault : {T : Type 0} → List ℕ → Result T RecoveryFault → Type 0
  IsRecoveryFault file (Ok done) = Unit {0}
  IsRecoveryFault file (Err NoMemory) = Unit {0}
  IsRecoveryFault file (Err (NoRecord at)) = (line after : List ℕ) × IsFaultAt file at line after
      × (checked line ≡ true) × ((us : List Update) → states line us → ⊥)
  IsRecoveryFault file (Err (Damaged at)) = (line after : List ℕ) × IsFaultAt file at line after
      × (checked line ≡ false) × HasChecked checked (whole_lines after)
  IsRecoveryFault file (Err Failed) = ⊥

  -- `IsOpeningOf s t file events result` holds if `events` are the calls of an opening of `file` with this result, by
  -- which the store `s` becomes `t`.
  abbrev pub IsOpeningOf : Store → Store → List ℕ → List Event → Result (Unit {0}) RecoveryFault → Type 0
  IsOpeningOf s t file events (Ok done) = (end : ℕ) × IsRecovered s t file end × IsOpening states end events true
  IsOpeningOf s t file events (Err NoMemory) = (events ≡ [])
      ⊎ ((end : ℕ) × IsRecovered s t file end × IsOpening states end events false)
  IsOpeningOf s t file events (Err (NoRecord at)) = (events ≡ []) × IsRecoveryFault {T = ℕ} file (Err (NoRecord at))
  IsOpeningOf s t file events (Err (Damaged at)) = (events ≡ []) × IsRecoveryFault {T = ℕ} file (Err (Damaged at))
  IsOpeningOf s t file events (Err Failed) = (end : ℕ) × IsRecovered s t file end × IsOpening states end events false
