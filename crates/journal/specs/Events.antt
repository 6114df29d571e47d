-- Defines the events of a machine, each a call with whether it succeeded, and sequences of events.
-- Source: POSIX.1-2017, `write` with O_APPEND, `fdatasync`, `ftruncate`, `rename`.
use Rattle.std.specs.Prelude.{◌≡◌, ◌⊎◌, ℕ, Bool, false, List, [], ◌∷◌}

-- An `Event` is a call of a machine; its last part is whether the call succeeded.
pub data Event : Type 0 where
  append : List ℕ → Bool → Event
  sync : Bool → Event
  cut : ℕ → Bool → Event
  replace : List ℕ → Bool → Event
  reply : List ℕ → Bool → Event

-- `IsFailed e` holds if the call of the event `e` failed, `HasFailed events` if one of the events did.
abbrev pub IsFailed : Event → Type 0
IsFailed (append bytes done) = done ≡ false
IsFailed (sync done) = done ≡ false
IsFailed (cut len done) = done ≡ false
IsFailed (replace bytes done) = done ≡ false
IsFailed (reply text done) = done ≡ false

abbrev pub HasFailed : List Event → Type 0
HasFailed [] = ⊥
HasFailed (e ∷ events) = IsFailed e ⊎ HasFailed events

-- `does old event new` relates the states of a machine before and after an event.
module _ {M : Type 0} (does : M → Event → M → Type 0) where
  -- `Runs old events new` holds if the events, one after another, lead from the state `old` to `new`.
  abbrev pub Runs : M → List Event → M → Type 0
  Runs old [] new = new ≡ old
  Runs old (e ∷ events) new = (mid : M) × does old e mid × Runs mid events new
