-- Defines the outcome of a step of a run of `serve`.
use Rattle.std.specs.Prelude.{◌≡◌, Bool, true, false, List, [], ◌∷◌, ℕ}
use Rattle.program.specs.declared.device.Stream.TheVariants.{Faults}
use Rattle.program.specs.Events.{Event, wrote}
use Rattle.program.specs.Reports.{ended}

module _ {L G N : Type 0} where
  -- `IsWarned b line events` holds if `b`, and `events` are the warning `line`, whether or not the stream accepts it;
  -- or if not `b`, and `events` are empty.
  abbrev pub IsWarned : Bool → List ℕ → List (Event L G N) → Type 0
  IsWarned false line events = events ≡ []
  IsWarned true line events = (done : Bool) × (events ≡ wrote Faults (ended line) done ∷ [])
