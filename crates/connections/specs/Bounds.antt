-- Defines how many bytes a table of connections holds at most.
-- Source: RFC 9112, section 9.3 (pipelined requests wait in order); this crate's limits.
-- Rules of this product: of the bytes of one slot there are at most `MAX_SHORT`, or `MAX_INPUT` at `MAX_LONG` slots.
use Rattle.std.specs.Prelude.{◌≤◌, ◌+◌, ◌*◌, ℕ, List, [], ◌∷◌, length}
use Rattle.std.specs.List.{sum_by}
use Rattle.connections.specs.Connections.{AreChanges, Connection, Entry, held, longs, unsent}
use Rattle.connections.specs.Connections.{At, Committed, Uncommitted}
use Rattle.connections.specs.Rounds.{reply_in}
use Rattle.connections.specs.Stories.{AreFree}
use Rattle.connections.specs.declared.TheConstants.{MAX_INPUT, MAX_LONG, MAX_SHORT, MAX_UNSENT}

-- `AreAtMost most entries` holds if each reply that the entries make has at most `most` bytes, with its line.
abbrev pub AreAtMost : ℕ → List Entry → Type 0
AreAtMost most [] = Unit {0}
AreAtMost most (At at change ∷ entries) = (reply_in change ≤ most) × AreAtMost most entries
AreAtMost most (Committed ∷ entries) = AreAtMost most entries
AreAtMost most (Uncommitted ∷ entries) = AreAtMost most entries

-- `IsBounded most table` holds if the table holds a bounded number of bytes, where no reply has more than `most` with
-- its line:
-- - few: at most `MAX_LONG` connections hold more than `MAX_SHORT` bytes of input.
-- - input: all hold at most `MAX_SHORT` bytes for each slot, and `MAX_INPUT` for each of `MAX_LONG`.
-- - output: at most `MAX_UNSENT` bytes of replies and lines are unsent, and one more reply with its line.
pub record IsBounded (most : ℕ) (table : List Connection) : Type 0 where
  pub few : longs table ≤ MAX_LONG
  pub input : sum_by held table ≤ length table * MAX_SHORT + MAX_LONG * MAX_INPUT
  pub output : unsent table ≤ MAX_UNSENT + most

-- `TablesAreBounded` holds if each table to which entries lead from a free one is bounded.
abbrev pub TablesAreBounded : Type 0
TablesAreBounded =
    (entries : List Entry) (old new : List Connection) (most : ℕ) → AreFree old → AreChanges entries old new
    → AreAtMost most entries → IsBounded most new
