-- Defines which steps survive a crash, and at which moments no acknowledged change can be lost.
-- Rules of this product: a step whose reply was sent survives, and of the steps that survive none was skipped.
use Rattle.std.specs.Prelude.{◌≡◌, ◌≤◌, ◌⊎◌, ℕ, Bool, List, [], ◌∷◌, ◌++◌, length}
use Rattle.stamped_store.specs.Store.{Update}
use Rattle.journal.specs.Lines.{AreLines, IsLine, written}
use Rattle.journal.specs.Moments.{Moment, IsLeftBy}
use Rattle.journal.specs.Records.{Holds}
use Rattle.journal.specs.Steps.{Done, replies_of, updates_of}

-- `IsTornOnce m` holds if at the moment `m` the file is whole lines, all on the disk, and then `torn`, a first part of
-- at most one line.
pub record IsTornOnce (m : Moment) : Type 0 where
  pub lines : List (List ℕ)
  pub torn : List ℕ
  pub line : List ℕ
  pub rest : List ℕ
  pub clean : AreLines lines
  pub is_line : IsLine line
  pub whole : m.file ≡ written lines ++ torn
  pub part : line ++ 10 ∷ [] ≡ torn ++ rest
  pub durable : length (written lines) ≤ m.durable

module _ (states : List ℕ → List Update → Type 0) (checked : List ℕ → Bool) where
  -- `IsSurvivor first done before m file` holds if `file` holds the updates `first`, and then those of the first steps
  -- of `done`, `sent` and `kept`: all steps whose reply may have reached a client at the moment `m` (after the replies
  -- `before`), and perhaps more, in order, none skipped and none in part.
  pub record IsSurvivor (first : List Update) (done : List Done) (before : List (List ℕ)) (m : Moment)
      (file : List ℕ) : Type 0 where
    pub sent : List Done
    pub kept : List Done
    pub lost : List Done
    pub split : done ≡ sent ++ (kept ++ lost)
    pub replies : m.replies ≡ before ++ replies_of sent
    pub holds : Holds states checked file (first ++ updates_of (sent ++ kept))

  -- `IsSafe first done before m` holds if each file that a crash at the moment `m` may leave is a survivor.
  abbrev pub IsSafe : List Update → List Done → List (List ℕ) → Moment → Type 0
  IsSafe first done before m = (file : List ℕ) → IsLeftBy checked m file → IsSurvivor first done before m file

  -- `IsEither us vs m` holds if each file that a crash at the moment `m` may leave holds the updates `us` or `vs`.
  abbrev pub IsEither : List Update → List Update → Moment → Type 0
  IsEither us vs m = (file : List ℕ) → IsLeftBy checked m file
      → Holds states checked file us ⊎ Holds states checked file vs

  -- `IsSame us m` holds if each file that a crash at the moment `m` may leave holds the updates `us`.
  abbrev pub IsSame : List Update → Moment → Type 0
  IsSame us m = (file : List ℕ) → IsLeftBy checked m file → Holds states checked file us
