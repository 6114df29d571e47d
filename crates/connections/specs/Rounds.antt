-- Defines a round: each connection that may have a request answered has one answered, unless too many bytes are unsent;
-- then the replies are committed, and the log gets their lines.
-- Source: RFC 9112, section 9.3 (one after another, in order).
-- Rules of this product: one request of a connection in a round, however many it has sent; one commit in a round. A
-- round stops at the slot at which more than `MAX_UNSENT` bytes of replies and lines are unsent. If the next round
-- begins there, as `next_slot` says, no slot has a second turn before each other one has had its first.
use Rattle.std.specs.Prelude.{◌≡◌, ◌≤◌, ◌<◌, ◌+◌, ◌==◌, ◌⊎◌, ℕ, List, [], ◌∷◌, ◌++◌, if◌then◌else◌}
use Rattle.std.specs.Prelude.{Some, length, nat_lt, slice_get}
use Rattle.connections.specs.Connections.{Change, Connection, Entry, MayAnswer, unsent}
use Rattle.connections.specs.Connections.{At, Committed, Uncommitted}
use Rattle.connections.specs.Connections.{Opened, Reserved, Came, Ended, Asked, Lacked}
use Rattle.connections.specs.Connections.{Answered, Logged, CutOff, Took, Gone}
use Rattle.connections.specs.Framing.{StaysUnfinished}
use Rattle.connections.specs.declared.TheConstants.{MAX_UNSENT}
use Rattle.connections.specs.declared.slot.Stage.{Stage}
use Rattle.connections.specs.declared.slot.Stage.TheVariants as Stages
use Rattle.connections.specs.declared.table.Outcome.{Outcome}
use Rattle.connections.specs.declared.table.Outcome.TheVariants as did

-- `IsATurn change` holds if the change is an answer, or the finding that there is less than a request.
abbrev pub IsATurn : Change → Type 0
IsATurn (Opened now) = ⊥
IsATurn (Reserved now) = ⊥
IsATurn (Came bytes now) = ⊥
IsATurn Ended = ⊥
IsATurn (Asked now) = ⊥
IsATurn (Lacked needed) = Unit {0}
IsATurn (Answered request closes reply line) = Unit {0}
IsATurn (Logged line) = ⊥
IsATurn (CutOff line) = ⊥
IsATurn (Took bytes now) = ⊥
IsATurn (Gone why) = ⊥

-- `IsALack change` holds if the change is the finding that there is less than a request.
abbrev pub IsALack : Change → Type 0
IsALack (Opened now) = ⊥
IsALack (Reserved now) = ⊥
IsALack (Came bytes now) = ⊥
IsALack Ended = ⊥
IsALack (Asked now) = ⊥
IsALack (Lacked needed) = Unit {0}
IsALack (Answered request closes reply line) = ⊥
IsALack (Logged line) = ⊥
IsALack (CutOff line) = ⊥
IsALack (Took bytes now) = ⊥
IsALack (Gone why) = ⊥

-- `IsALine change` holds if the change is a line of the log, whole or a proper prefix.
abbrev pub IsALine : Change → Type 0
IsALine (Opened now) = ⊥
IsALine (Reserved now) = ⊥
IsALine (Came bytes now) = ⊥
IsALine Ended = ⊥
IsALine (Asked now) = ⊥
IsALine (Lacked needed) = ⊥
IsALine (Answered request closes reply line) = ⊥
IsALine (Logged line) = Unit {0}
IsALine (CutOff line) = Unit {0}
IsALine (Took bytes now) = ⊥
IsALine (Gone why) = ⊥

-- `AreAll P entries` holds if each entry is a change of a connection, with the property `P`.
abbrev pub AreAll : (Change → Type 0) → List Entry → Type 0
AreAll P [] = Unit {0}
AreAll P (At at change ∷ entries) = P change × AreAll P entries
AreAll P (Committed ∷ entries) = ⊥
AreAll P (Uncommitted ∷ entries) = ⊥

-- `answers_in change` is 1 if the change is an answer, else 0.
abbrev pub answers_in : Change → ℕ
answers_in (Opened now) = 0
answers_in (Reserved now) = 0
answers_in (Came bytes now) = 0
answers_in Ended = 0
answers_in (Asked now) = 0
answers_in (Lacked needed) = 0
answers_in (Answered request closes reply line) = 1
answers_in (Logged line) = 0
answers_in (CutOff line) = 0
answers_in (Took bytes now) = 0
answers_in (Gone why) = 0

-- `answers_at at entries` is the number of requests that the entries answer at the slot `at`.
abbrev pub answers_at : ℕ → List Entry → ℕ
answers_at at [] = 0
answers_at at (At slot change ∷ entries) = (if slot == at then answers_in change else 0) + answers_at at entries
answers_at at (Committed ∷ entries) = answers_at at entries
answers_at at (Uncommitted ∷ entries) = answers_at at entries

-- `reply_in change` is the number of bytes of the reply and of its line if the change is an answer, else 0.
abbrev pub reply_in : Change → ℕ
reply_in (Opened now) = 0
reply_in (Reserved now) = 0
reply_in (Came bytes now) = 0
reply_in Ended = 0
reply_in (Asked now) = 0
reply_in (Lacked needed) = 0
reply_in (Answered request closes reply line) = length reply + length line
reply_in (Logged line) = 0
reply_in (CutOff line) = 0
reply_in (Took bytes now) = 0
reply_in (Gone why) = 0

-- `replied entries` is the number of bytes of the replies that the entries make, and of their lines.
abbrev pub replied : List Entry → ℕ
replied [] = 0
replied (At slot change ∷ entries) = reply_in change + replied entries
replied (Committed ∷ entries) = replied entries
replied (Uncommitted ∷ entries) = replied entries

-- `AreTurns entries` holds if the entries are turns, and answer a request.
abbrev pub AreTurns : List Entry → Type 0
AreTurns entries = AreAll IsATurn entries × (AreAll IsALack entries → ⊥)

-- `IsOrdered outcome entries` holds if the entries answer nothing; or they are turns, then a commit, then lines; or
-- they are turns, then a commit that failed: as the outcome says.
abbrev pub IsOrdered : Outcome → List Entry → Type 0
IsOrdered did.Quiet entries = AreAll IsALack entries
IsOrdered did.Answered entries =
    (turns lines : List Entry) × AreTurns turns × AreAll IsALine lines × (entries ≡ turns ++ Committed ∷ lines)
IsOrdered did.Uncommitted entries = (turns : List Entry) × AreTurns turns × (entries ≡ turns ++ Uncommitted ∷ [])

-- `next_slot end slots` is the slot at which the round after one that ended at `end` is to begin, in a table of `slots`
-- slots.
abbrev pub next_slot : ℕ → ℕ → ℕ
next_slot end slots = if nat_lt end slots then end else 0

-- `IsSettledAt s` holds if a reply at the stage `s` waits neither for a commit nor for the log.
abbrev pub IsSettledAt : Stage → Type 0
IsSettledAt Stages.Made = ⊥
IsSettledAt Stages.Committed = ⊥
IsSettledAt Stages.Logged = Unit {0}
IsSettledAt Stages.Uncommitted = Unit {0}
IsSettledAt Stages.Unlogged = Unit {0}

-- `AreSettled table` holds if no reply of the table waits for a commit or for the log.
abbrev pub AreSettled : List Connection → Type 0
AreSettled table = (at : ℕ) (c : Connection) → slice_get table at ≡ Some c → IsSettledAt c.stage

-- `AreLacking table` holds if each connection that may have a request answered is known to have no whole one, so that
-- it may be read from unless its client has ended.
abbrev pub AreLacking : List Connection → Type 0
AreLacking table =
    (at : ℕ) (c : Connection) → slice_get table at ≡ Some c → MayAnswer c → length c.input < c.needed

module _ (is_unfinished : List ℕ → Type 0) where
  -- `AreNeeded table` holds if the bytes of each connection, with whatever follows, are less than a request below the
  -- number that it needs.
  abbrev pub AreNeeded : List Connection → Type 0
  AreNeeded table =
      (at : ℕ) (c : Connection) → slice_get table at ≡ Some c → StaysUnfinished is_unfinished c.input c.needed

  -- `AreReady table` holds if a round may begin: no reply waits for a commit or for the log, and each connection needs
  -- the bytes that it is said to need.
  pub record AreReady (table : List Connection) : Type 0 where
    pub settled : AreSettled table
    pub needs : AreNeeded table

  -- `HasItsTurn at c entries` holds if the entries answer exactly one request of the connection `c` at the slot `at`;
  -- or none, and then `c` may not have a request answered, or has no whole one.
  abbrev pub HasItsTurn : ℕ → Connection → List Entry → Type 0
  HasItsTurn at c entries =
      (answers_at at entries ≡ 1) ⊎ ((answers_at at entries ≡ 0) × (MayAnswer c → is_unfinished c.input))

  -- `IsRound from end table entries` holds if the entries are a round of the table `table`, from the slot `from` on:
  -- - turns: each connection at a slot from `from` on and below `end` has its turn.
  -- - others: no request is answered at any other slot.
  -- - first: if at most `MAX_UNSENT` bytes of replies and lines are unsent before, the slot `from` has its turn.
  -- - stop: `end` is the number of slots; or it is one of them, and more than `MAX_UNSENT` bytes are unsent.
  pub record IsRound (from end : ℕ) (table : List Connection) (entries : List Entry) : Type 0 where
    pub turns : (at : ℕ) (c : Connection) → from ≤ at → at < end → slice_get table at ≡ Some c → HasItsTurn at c entries
    pub others : (at : ℕ) → (at < from) ⊎ (end ≤ at) → answers_at at entries ≡ 0
    pub first : from < length table → unsent table ≤ MAX_UNSENT → from < end
    pub stop : (end ≡ length table) ⊎ ((end < length table) × (MAX_UNSENT < unsent table + replied entries))

  -- `IsQuiet table` holds if no connection that may have a request answered has a whole one.
  abbrev pub IsQuiet : List Connection → Type 0
  IsQuiet table = (at : ℕ) (c : Connection) → slice_get table at ≡ Some c → MayAnswer c → is_unfinished c.input
