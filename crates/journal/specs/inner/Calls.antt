-- Defines calls of a device by the states between them.
use Rattle.std.specs.Prelude.{◌≡◌, ◌≢◌, ◌⊎◌, ℕ, Bool, true, false, List, [], ◌∷◌, ◌++◌, Result, Ok, Err}
use Rattle.stamped_store.specs.Store.{Update}
use Rattle.journal.specs.declared.fault.CommitFault.{CommitFault}
use Rattle.journal.specs.declared.fault.CommitFault.TheVariants.{Failed}
use Rattle.journal.specs.declared.fault.RecoveryFault.{RecoveryFault}
use Rattle.journal.specs.declared.fault.RecoveryFault.TheVariants as fault
use Rattle.journal.specs.Events.{Event, Runs}
use Rattle.journal.specs.Events as event
use Rattle.journal.specs.Lines.{IsLine}
use Rattle.journal.specs.Rounds.{AreReplies, IsCommitOf}

-- `does old event new` relates the states of a device before and after an event.
module _ {D : Type 0} (does : D → Event → D → Type 0) where
  -- `Makes P old new` holds if some events with `P` lead from the state `old` to `new`.
  abbrev pub Makes : (List Event → Type 0) → D → D → Type 0
  Makes P old new = (events : List Event) × Runs does old events new × P events

  -- `Records entry old new done` holds if the calls that put `entry` on the disk lead from `old` to `new`: an append
  -- and a sync, up to the first that failed; for an empty entry none. `done` is whether all succeeded.
  abbrev pub Records : List ℕ → D → D → Bool → Type 0
  Records entry old new true = ((entry ≡ []) × (new ≡ old))
      ⊎ ((entry ≢ []) × Runs does old (event.append entry true ∷ event.sync true ∷ []) new)
  Records entry old new false = Runs does old (event.append entry false ∷ []) new
      ⊎ Runs does old (event.append entry true ∷ event.sync false ∷ []) new

  -- `Settles end old new done` holds if a sync and a cut after `end` bytes, up to the first that failed, lead from
  -- `old` to `new`; `done` is whether both succeeded.
  abbrev pub Settles : ℕ → D → D → Bool → Type 0
  Settles end old new true = Runs does old (event.sync true ∷ event.cut end true ∷ []) new
  Settles end old new false = Runs does old (event.sync false ∷ []) new
      ⊎ Runs does old (event.sync true ∷ event.cut end false ∷ []) new

-- `states line us` relates a record to the updates that it states.
module _ {D : Type 0} (states : List ℕ → List Update → Type 0) (does : D → Event → D → Type 0) where
  -- `Begins old new result` holds if the calls that record a header lead from `old` to `new`, with this result.
  abbrev pub Begins : D → D → Result (Unit {0}) RecoveryFault → Type 0
  Begins old new (Ok done) = (line : List ℕ) × IsLine line × states line []
      × Records does (line ++ 10 ∷ []) old new true
  Begins old new (Err found) = ((found ≡ fault.NoMemory) × (new ≡ old))
      ⊎ ((found ≡ fault.Failed) × ((line : List ℕ) × IsLine line × states line []
      × Records does (line ++ 10 ∷ []) old new false))

  -- `CommitsAndSends us replies old new result` holds if a commit of the updates `us`, and then the replies in order,
  -- up to the first call that failed, lead from `old` to `new`, with this result.
  abbrev pub CommitsAndSends : List Update → List (List ℕ) → D → D → Result (Unit {0}) CommitFault → Type 0
  CommitsAndSends us replies old new (Ok done) = (mid : D)
      × Makes does (λ events. IsCommitOf states us events (Ok tt)) old mid
      × Makes does (λ events. AreReplies replies events true) mid new
  CommitsAndSends us replies old new (Err found) =
      Makes does (λ events. IsCommitOf states us events (Err found)) old new
      ⊎ ((found ≡ Failed) × ((mid : D) × Makes does (λ events. IsCommitOf states us events (Ok tt)) old mid
      × Makes does (λ events. AreReplies replies events false) mid new))
