-- Defines when a line is refused as a record.
use Rattle.std.specs.Prelude.{ℕ, List, Result, Ok, Err}
use Rattle.stamped_store.specs.Store.{Update}
use Rattle.journal.specs.declared.fault.RecoveryFault.{RecoveryFault}
use Rattle.journal.specs.declared.fault.RecoveryFault.TheVariants.{NoMemory, NoRecord, Damaged, Failed}
use Rattle.std.specs.Prelude.{◌≡◌}

module _ (states : List ℕ → List Update → Type 0) where
  -- `IsLineFault line at result` states when `line`, at the offset `at`, is refused: with `NoRecord` if it is not a
  -- record, and with no other error than this one and `NoMemory`.
  abbrev pub IsLineFault : List ℕ → ℕ → Result (Unit {0}) RecoveryFault → Type 0
  IsLineFault line at (Ok done) = Unit {0}
  IsLineFault line at (Err NoMemory) = Unit {0}
  IsLineFault line at (Err (NoRecord place)) = (place ≡ at) × ((us : List Update) → states line us → ⊥)
  IsLineFault line at (Err (Damaged place)) = ⊥
  IsLineFault line at (Err Failed) = ⊥
