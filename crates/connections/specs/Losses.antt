-- Defines what may happen to a connection whose last reply was lost.
-- Source: RFC 9112, section 9.6 (tear-down).
-- Rules of this product: if the commit of a reply fails, or the log gets only a part of its line, nothing happens to
-- the connection but that it is closed for that reason.
use Rattle.std.specs.Prelude.{◌≡◌, true}
use Rattle.connections.specs.Connections.{Change, Connection, Gone, IsChange}
use Rattle.connections.specs.declared.slot.Reason.TheVariants as Reasons
use Rattle.connections.specs.declared.slot.Stage.TheVariants as Stages

-- `LostRepliesEnd` holds if the only change of a connection whose last reply was lost is to be closed for that reason:
-- - uncommitted: its commit failed.
-- - unlogged: the log got only a proper prefix of its line.
pub record LostRepliesEnd : Type 0 where
  pub uncommitted : (change : Change) (a b : Connection) → a.is_open ≡ true → a.stage ≡ Stages.Uncommitted
      → IsChange change a b → change ≡ Gone Reasons.Uncommitted
  pub unlogged : (change : Change) (a b : Connection) → a.is_open ≡ true → a.stage ≡ Stages.Unlogged
      → IsChange change a b → change ≡ Gone Reasons.Unlogged
