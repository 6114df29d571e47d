-- Defines the calls of a compaction.
-- Rules of this product: the new file is whole on the disk before it takes the place of the old one.
use Rattle.std.specs.Prelude.{◌≡◌, ℕ, true, false, List, Result, Ok, Err}
use Rattle.stamped_store.specs.Store.{Update}
use Rattle.journal.specs.declared.fault.CommitFault.{CommitFault}
use Rattle.journal.specs.declared.fault.CommitFault.TheVariants.{NoMemory, Failed}
use Rattle.journal.specs.Events.{Event}
use Rattle.journal.specs.Events as event
use Rattle.journal.specs.Records.{AreRecordsOf}

module _ {D : Type 0} (states : List ℕ → List Update → Type 0) (does : D → Event → D → Type 0) where
  -- `Compacts us bytes old new result` holds if one call, which replaces the file by `bytes`, the records of the
  -- updates `us`, led from the state `old` to `new`; or no call, if `result` is `NoMemory`.
  abbrev pub Compacts : List Update → List ℕ → D → D → Result (Unit {0}) CommitFault → Type 0
  Compacts us bytes old new (Ok done) = AreRecordsOf states us bytes × does old (event.replace bytes true) new
  Compacts us bytes old new (Err NoMemory) = new ≡ old
  Compacts us bytes old new (Err Failed) = AreRecordsOf states us bytes × does old (event.replace bytes false) new
