-- Defines the records of a journal, which updates a file holds, and when it is at rest.
-- Rules of this product: one record on each line, which states updates; the header is a record of no updates. Behind
-- the records a file may have lines without a right checksum, and an unended line: a torn end.
use Rattle.std.specs.Prelude.{◌≡◌, ◌⊎◌, ℕ, Bool, List, [], ◌∷◌, ◌++◌, length}
use Rattle.std.specs.List.{AllByRecursion}
use Rattle.stamped_store.specs.Store.{Update}
use Rattle.journal.specs.Moments.{Moment, IsUnchecked}
use Rattle.journal.specs.Lines.{IsLine, AreLines, whole_lines, written}

-- `states line us` relates a record to the updates that it states.
module _ (states : List ℕ → List Update → Type 0) where
  -- `IsEntryOf us entry` holds if `entry` is a record of the updates `us` with its line feed; or nothing, if there are
  -- no updates.
  abbrev pub IsEntryOf : List Update → List ℕ → Type 0
  IsEntryOf us entry = ((us ≡ []) × (entry ≡ []))
      ⊎ ((line : List ℕ) × IsLine line × states line us × (entry ≡ line ++ 10 ∷ []))

  -- `AreStated records us` holds if `us` are the updates of the first of `records`, then those of the second, and so
  -- on.
  abbrev pub AreStated : List (List ℕ) → List Update → Type 0
  AreStated [] us = us ≡ []
  AreStated (r ∷ records) us = (vs ws : List Update) × states r vs × AreStated records ws × (us ≡ vs ++ ws)

  -- `AreRecordsOf us bytes` holds if `bytes` are whole records, each with its line feed, that state the updates `us`.
  abbrev pub AreRecordsOf : List Update → List ℕ → Type 0
  AreRecordsOf us bytes = (records : List (List ℕ)) × AreLines records × AreStated records us
      × (bytes ≡ written records)

  -- `IsAtRest m us` holds if at the moment `m` the file is whole records that state the updates `us`, all on the disk.
  pub record IsAtRest (m : Moment) (us : List Update) : Type 0 where
    pub records : List (List ℕ)
    pub lines : AreLines records
    pub whole : m.file ≡ written records
    pub durable : m.durable ≡ length m.file
    pub stated : AreStated records us

-- `checked line` tests whether a line has a right checksum.
module _ (states : List ℕ → List Update → Type 0) (checked : List ℕ → Bool) where
  -- `Holds file us` holds if the first of the whole lines of `file` are records that state the updates `us`, and no
  -- later line has a right checksum.
  pub record Holds (file : List ℕ) (us : List Update) : Type 0 where
    pub records : List (List ℕ)
    pub others : List (List ℕ)
    pub lines : whole_lines file ≡ records ++ others
    pub stated : AreStated states records us
    pub unchecked : AllByRecursion (IsUnchecked checked) others
