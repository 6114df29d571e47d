-- Defines runs over events from outside: the entries that each event makes.
-- Source: RFC 9112, sections 9.3 and 9.6.
-- Rules of this product: an event for which its connection is not ready has no effect.
use Rattle.std.specs.Prelude.{◌≡◌, ◌⊎◌, ℕ, List, [], ◌∷◌, ◌++◌, length, take, Some, slice_get}
use Rattle.connections.specs.Bounds.{AreAtMost, IsBounded}
use Rattle.connections.specs.Connections.{Change, Connection, Entry, MayAsk, MayRead}
use Rattle.connections.specs.Connections.{At, Opened, Reserved, Came, Ended, Asked, Took, Gone}
use Rattle.connections.specs.Limits.{AreClosed}
use Rattle.connections.specs.Made.{IsFree, IsNoneAt, MayEnd, MayReadBytes, MayReserve, MayTakeSome}
use Rattle.connections.specs.Rounds.{IsOrdered, IsRound}
use Rattle.connections.specs.Steps.{Leads}
use Rattle.connections.specs.Stories.{AllFit, AreFree}
use Rattle.connections.specs.declared.event.Event.{Event}
use Rattle.connections.specs.declared.table.Outcome.{Outcome}
use Rattle.connections.specs.declared.event.Event.TheVariants.{Accepted, Readied, Arrived, Finished, Waited}
use Rattle.connections.specs.declared.event.Event.TheVariants.{Writable, Closed, ClosedAll, Round}

-- `IsOneOrNone P table at change entries` holds if the change at the slot `at` is the only entry; or there is no entry,
-- and no connection at this slot has the property `P`, which the change needs.
abbrev pub IsOneOrNone : (Connection → Type 0) → List Connection → ℕ → Change → List Entry → Type 0
IsOneOrNone P table at change entries = (entries ≡ At at change ∷ []) ⊎ ((entries ≡ []) × IsNoneAt at P table)

module _ (is_unfinished : List ℕ → Type 0) where
  -- `IsCause event table entries new` holds if the event makes these entries, from the table `table` to `new`.
  abbrev pub IsCause : Event → List Connection → List Entry → List Connection → Type 0
  IsCause (Accepted at now) table entries new = IsOneOrNone IsFree table at (Opened now) entries
  IsCause (Readied at now) table entries new = IsOneOrNone (MayReserve table) table at (Reserved now) entries
  IsCause (Arrived at bytes now) table entries new =
      IsOneOrNone (MayReadBytes bytes.items) table at (Came bytes.items now) entries
  IsCause (Finished at) table entries new = IsOneOrNone MayRead table at Ended entries
  IsCause (Waited at now) table entries new = IsOneOrNone MayAsk table at (Asked now) entries
  IsCause (Writable at count now) table entries new =
      ((c : Connection) × (slice_get table at ≡ Some c) × (entries ≡ At at (Took (take count c.output) now) ∷ []))
      ⊎ ((entries ≡ []) × IsNoneAt at (MayTakeSome count) table)
  IsCause (Closed at why) table entries new = IsOneOrNone (MayEnd why table) table at (Gone why) entries
  IsCause (ClosedAll why) table entries new = AreClosed why table entries new
  IsCause (Round from) table entries new =
      (outcome : Outcome) × (end : ℕ) × IsOrdered outcome entries × IsRound is_unfinished from end table entries

-- The service takes `steps`, and the log `notes`.
module _ {S L : Type 0} (steps : S → Entry → S → Type 0) (notes : L → Entry → L → Type 0)
    (is_unfinished : List ℕ → Type 0) where
  -- `IsHandled event table old first table2 new last` holds if the event led from the table `table`, the service `old`
  -- and the log `first` to `table2`, `new` and `last`.
  pub record IsHandled (event : Event) (table : List Connection) (old : S) (first : L)
      (table2 : List Connection) (new : S) (last : L) : Type 0 where
    pub entries : List Entry
    pub leads : Leads steps notes entries table old first table2 new last
    pub cause : IsCause is_unfinished event table entries table2

  -- `AreHandled events table old first entries table2 new last` holds if the events, one after another, make the
  -- entries, which lead from the table `table`, the service `old` and the log `first` to `table2`, `new` and `last`.
  abbrev pub AreHandled : List Event → List Connection → S → L → List Entry → List Connection → S → L → Type 0
  AreHandled [] table old first entries table2 new last =
      (entries ≡ []) × (table2 ≡ table) × (new ≡ old) × (last ≡ first)
  AreHandled (event ∷ events) table old first entries table2 new last =
      (now later : List Entry) × (mid : List Connection) × (state : S) × (log : L)
      × Leads steps notes now table old first mid state log × IsCause is_unfinished event table now mid
      × AreHandled events mid state log later table2 new last × (entries ≡ now ++ later)

  -- `IsServed events table old first table2 new last` holds if the events led from the table `table`, the service `old`
  -- and the log `first` to `table2`, `new` and `last`:
  -- - handled: the events, one after another, make the list of entries `entries`.
  -- - leads: these entries change the table; they are one chain of steps of the service, and of the log.
  -- - fit: if the table was free, each connection fits its story.
  -- - bounded: if the table was free, it then holds a bounded number of bytes.
  -- - slots: the number of slots is unchanged.
  pub record IsServed (events : List Event) (table : List Connection) (old : S) (first : L)
      (table2 : List Connection) (new : S) (last : L) : Type 0 where
    pub entries : List Entry
    pub handled : AreHandled events table old first entries table2 new last
    pub leads : Leads steps notes entries table old first table2 new last
    pub fit : AreFree table → AllFit entries table2
    pub bounded : (most : ℕ) → AreFree table → AreAtMost most entries → IsBounded most table2
    pub slots : length table2 ≡ length table
