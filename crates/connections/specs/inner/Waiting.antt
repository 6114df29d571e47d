-- Defines the lines that the slots of a table hold for the log.
-- Source: docs/formats.md, "The log of a served site".
use Rattle.std.specs.Prelude.{◌≡◌, ◌⊎◌, ℕ, suc, List, [], ◌∷◌, ◌++◌, Some, slice_get}
use Rattle.connections.specs.Connections.{ChangesAt, Connection, CutOff, Logged}
use Rattle.connections.specs.Steps.{Line}
use Rattle.connections.specs.declared.slot.Stage.{Stage}
use Rattle.connections.specs.declared.slot.Stage.TheVariants as Stages

-- `held at s line` is the line of the slot `at` if its reply is at the stage `s` before the log, else nothing.
abbrev pub held : ℕ → Stage → List ℕ → List Line
held at Stages.Made line = record { at = at; text = line } ∷ []
held at Stages.Committed line = record { at = at; text = line } ∷ []
held at Stages.Logged line = []
held at Stages.Uncommitted line = []
held at Stages.Unlogged line = []

-- `waiting at table` are the lines that the slots of the table, which are numbered from `at`, hold for the log, in the
-- order of the slots.
abbrev pub waiting : ℕ → List Connection → List Line
waiting at [] = []
waiting at (c ∷ table) = held at c.stage c.line ++ waiting (suc at) table

-- `IsPastCommit s` holds if a reply at the stage `s` does not wait for a commit.
abbrev pub IsPastCommit : Stage → Type 0
IsPastCommit Stages.Made = ⊥
IsPastCommit Stages.Committed = Unit {0}
IsPastCommit Stages.Logged = Unit {0}
IsPastCommit Stages.Uncommitted = Unit {0}
IsPastCommit Stages.Unlogged = Unit {0}

-- `AreAllCommitted table` holds if no reply of the table waits for a commit.
abbrev pub AreAllCommitted : List Connection → Type 0
AreAllCommitted table = (at : ℕ) (c : Connection) → slice_get table at ≡ Some c → IsPastCommit c.stage

-- `IsMadeOrSettled s` holds if a reply at the stage `s` waits for a commit, or neither for a commit nor for the log.
abbrev pub IsMadeOrSettled : Stage → Type 0
IsMadeOrSettled Stages.Made = Unit {0}
IsMadeOrSettled Stages.Committed = ⊥
IsMadeOrSettled Stages.Logged = Unit {0}
IsMadeOrSettled Stages.Uncommitted = Unit {0}
IsMadeOrSettled Stages.Unlogged = Unit {0}

-- `AreMadeOrSettled table` holds if each reply of the table is so.
abbrev pub AreMadeOrSettled : List Connection → Type 0
AreMadeOrSettled table = (at : ℕ) (c : Connection) → slice_get table at ≡ Some c → IsMadeOrSettled c.stage

module _ {L : Type 0} (writes cuts : L → List ℕ → L → Type 0) where
  -- `HasNoted c at old first new last` holds if the reply of the connection `c` is committed, and the log, going from
  -- `first` to `last`, got its line or a proper prefix of it.
  abbrev pub HasNoted : Connection → ℕ → List Connection → L → List Connection → L → Type 0
  HasNoted c at old first new last =
      (c.stage ≡ Stages.Committed)
      × ((ChangesAt at (Logged c.line) old new × writes first c.line last)
      ⊎ (ChangesAt at (CutOff c.line) old new × cuts first c.line last))

  -- `IsNoted at old first new last` holds if the log got what it was to get for the slot `at` of the table `old`, which
  -- gives the table `new`; nothing if the reply there is not committed.
  abbrev pub IsNoted : ℕ → List Connection → L → List Connection → L → Type 0
  IsNoted at old first new last =
      ((c : Connection) × (slice_get old at ≡ Some c) × HasNoted c at old first new last)
      ⊎ ((new ≡ old) × (last ≡ first)
      × ((c : Connection) → slice_get old at ≡ Some c → c.stage ≡ Stages.Committed → ⊥))
