-- Defines how a table becomes ready for a round, and stays so.
-- Source: RFC 9112, section 9.3 (one after another, in order).
-- Rules of this product: what happens between rounds leaves a table ready.
use Rattle.std.specs.Prelude.{ℕ, List}
use Rattle.connections.specs.Connections.{Change, ChangesAt, Connection}
use Rattle.connections.specs.Rounds.{AreReady, IsATurn}
use Rattle.connections.specs.Stories.{AreFree}

-- `TablesAreReady is_unfinished` holds if a free table is ready for a round, and a ready one remains so at each change
-- that is no turn.
pub record TablesAreReady (is_unfinished : List ℕ → Type 0) : Type 0 where
  pub free : (table : List Connection) → AreFree table → AreReady is_unfinished table
  pub stay : (at : ℕ) (change : Change) (old new : List Connection) → (IsATurn change → ⊥) → ChangesAt at change old new
      → AreReady is_unfinished old → AreReady is_unfinished new
