-- Defines the calls of rounds, each a commit and then replies.
-- Rules of this product: the updates of all requests that a round answered, in order and with repeats, are one record.
-- It is appended and synced before the first of the round's replies is sent. After a failed call no further call is
-- made.
use Rattle.std.specs.Prelude.{◌≡◌, ◌≢◌, ◌⊎◌, ℕ, Bool, true, false, List, [], ◌∷◌, ◌++◌, Result, Ok, Err}
use Rattle.std.specs.List.{flat_map}
use Rattle.stamped_store.specs.Store.{Update}
use Rattle.journal.specs.declared.fault.CommitFault.{CommitFault}
use Rattle.journal.specs.declared.fault.CommitFault.TheVariants.{NoMemory, Failed}
use Rattle.journal.specs.Events.{Event}
use Rattle.journal.specs.Events as event
use Rattle.journal.specs.Records.{IsEntryOf}
use Rattle.journal.specs.Steps.{Done, replies_of, updates_of}

-- `IsRecording entry events done` holds if `events` are the calls that put `entry` on the disk, up to the first that
-- failed, and `done` is whether all succeeded: an append and a sync; for an empty entry none.
abbrev pub IsRecording : List ℕ → List Event → Bool → Type 0
IsRecording entry events true = ((entry ≡ []) × (events ≡ []))
    ⊎ ((entry ≢ []) × (events ≡ event.append entry true ∷ event.sync true ∷ []))
IsRecording entry events false = (events ≡ event.append entry false ∷ [])
    ⊎ (events ≡ event.append entry true ∷ event.sync false ∷ [])

-- `AreReplies replies events done` holds if `events` send the replies in order, up to the first that failed, and `done`
-- is whether all succeeded.
abbrev pub AreReplies : List (List ℕ) → List Event → Bool → Type 0
AreReplies [] events done = (events ≡ []) × (done ≡ true)
AreReplies (text ∷ replies) events done = ((events ≡ event.reply text false ∷ []) × (done ≡ false))
    ⊎ ((more : List Event) × (events ≡ event.reply text true ∷ more) × AreReplies replies more done)

-- `states line us` relates a record to the updates that it states.
module _ (states : List ℕ → List Update → Type 0) where
  -- `IsCommit us events done` holds if `events` put an entry of the updates `us` on the disk, up to the first call that
  -- failed, and `done` is whether all succeeded.
  abbrev pub IsCommit : List Update → List Event → Bool → Type 0
  IsCommit us events done = (entry : List ℕ) × IsEntryOf states us entry × IsRecording entry events done

  -- `IsCommitOf us events result` holds if `events` are the calls of a commit of the updates `us` with this result.
  abbrev pub IsCommitOf : List Update → List Event → Result (Unit {0}) CommitFault → Type 0
  IsCommitOf us events (Ok done) = IsCommit us events true
  IsCommitOf us events (Err NoMemory) = events ≡ []
  IsCommitOf us events (Err Failed) = IsCommit us events false

  -- `IsRound us replies events done` holds if `events` are those of a round, up to the first that failed: the commit of
  -- its updates `us`, and then its replies; `done` is whether all succeeded.
  abbrev pub IsRound : List Update → List (List ℕ) → List Event → Bool → Type 0
  IsRound us replies events true = (committed sent : List Event) × IsCommit us committed true
      × AreReplies replies sent true × (events ≡ committed ++ sent)
  IsRound us replies events false = IsCommit us events false
      ⊎ ((committed sent : List Event) × IsCommit us committed true × AreReplies replies sent false
      × (events ≡ committed ++ sent))

  -- `IsRoundOf us replies events result` holds if `events` are those of a round of the updates `us` and the replies,
  -- with this result.
  abbrev pub IsRoundOf : List Update → List (List ℕ) → List Event → Result (Unit {0}) CommitFault → Type 0
  IsRoundOf us replies events (Ok done) = IsRound us replies events true
  IsRoundOf us replies events (Err NoMemory) = events ≡ []
  IsRoundOf us replies events (Err Failed) = IsRound us replies events false

  -- `AreRounds rounds events done` holds if `events` are those of rounds, each given by its steps, one after another; a
  -- round with a failed call is the last. `done` is whether all calls succeeded.
  abbrev pub AreRounds : List (List Done) → List Event → Bool → Type 0
  AreRounds [] events done = (events ≡ []) × (done ≡ true)
  AreRounds (round ∷ rounds) events done =
      (IsRound (updates_of round) (replies_of round) events false × (rounds ≡ []) × (done ≡ false))
      ⊎ ((here later : List Event) × IsRound (updates_of round) (replies_of round) here true
      × AreRounds rounds later done × (events ≡ here ++ later))

-- `steps_of rounds` are the steps of all rounds, in order.
abbrev pub steps_of : List (List Done) → List Done
steps_of rounds = flat_map (λ round. round) rounds
