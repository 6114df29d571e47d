-- Defines the events of an exchange whose calls succeed.
use Rattle.std.specs.Prelude.{◌≡◌, ℕ, ◌+◌, ◌++◌, List, [], ◌∷◌, Some, true}
use Rattle.std.specs.Borrow.{Bor}
use Rattle.program_exchanges.specs.http_streams.declared.devices.Source.{Ghosts as Source}
use Rattle.program_exchanges.specs.http_streams.declared.devices.Sink.{Ghosts as Sink}
use Rattle.program_exchanges.specs.declared.asking.ExchangeCall.TheVariants as call
use Rattle.program.specs.declared.device.Link.{Link}
use Rattle.program.specs.declared.device.Stream.TheVariants.{Answers}
use Rattle.program.specs.declared.exchanging.RoundCall.{RoundCall}
use Rattle.program.specs.Events.{Event, closed, connected, wrote}
use Rattle.program.specs.Reports.{ended}
use Rattle.program.specs.Courses.{Course}
use Rattle.program_exchanges.specs.Counts.{IsTakenLine}
use Rattle.program.specs.Exchanging.{IsCalled}

-- `Never any` is the course that no run has. A relation with `Never` in place of `goes_on` holds only for runs that do
-- not go on.
abbrev pub Never : {A L G N : Type 0} → A → Course L G N
Never any events end = ⊥

-- `NoCourse` is the same course without an argument.
abbrev pub NoCourse : {L G N : Type 0} → Course L G N
NoCourse events end = ⊥

module _ {R W G N : Type 0} (reader : Source R) (writer : Sink W) where
  -- `IsRepliedOver at body link reply events` holds if, with `events`, the call `at` with `body` got `reply` over the
  -- open connection `link`, which was then closed.
  abbrev pub IsRepliedOver : RoundCall → List ℕ → Link R W → List ℕ → List (Event (Link R W) G N) → Type 0
  IsRepliedOver at body link reply events = (left : Link R W) × IsCalled reader writer at body link reply left
      × (events ≡ closed left ∷ [])

  -- `IsReplied at body reply events` holds if, with `events`, the call `at` with `body` got `reply` over a connection
  -- that was opened for the call and then closed.
  abbrev pub IsReplied : RoundCall → List ℕ → List ℕ → List (Event (Link R W) G N) → Type 0
  IsReplied at body reply events = (link left : Link R W) × IsCalled reader writer at body link reply left
      × (events ≡ connected at.address.now (Some link) ∷ closed left ∷ [])

  -- `WasExchanged first to from events` holds if `events` are the three calls that bring the site at `to` up to date
  -- from the one at `from`, numbered from `first`, and the line with the count.
  pub record WasExchanged (first : ℕ) (to from : Bor (List ℕ)) (events : List (Event (Link R W) G N)) : Type 0 where
    pub summary : List ℕ
    pub delta : List ℕ
    pub line : List ℕ
    pub one : List (Event (Link R W) G N)
    pub two : List (Event (Link R W) G N)
    pub three : List (Event (Link R W) G N)
    pub asked : IsReplied (record { number = first; call = call.Summary; address = to }) [] summary one
    pub told : IsReplied (record { number = first + 1; call = call.Delta; address = from }) summary delta two
    pub merged : IsReplied (record { number = first + 2; call = call.Merge; address = to }) delta line three
    pub taken : IsTakenLine line
    pub are : events ≡ one ++ (two ++ (three ++ wrote Answers (ended line) true ∷ []))
