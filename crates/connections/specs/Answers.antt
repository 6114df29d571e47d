-- Defines what one call of a service does with the bytes of a connection.
-- Source: RFC 9112, section 9.3 (one after another, in order).
use Rattle.std.specs.Prelude.{◌≡◌, ◌≤◌, ◌<◌, ℕ, List, [], length, take}
use Rattle.connections.specs.Framing.{StaysUnfinished}
use Rattle.connections.specs.Steps.{Answering, LineRelation}
use Rattle.connections.specs.declared.service.Outcome.{Outcome}
use Rattle.connections.specs.declared.service.Outcome.TheVariants as found

module _ {S : Type 0} (answers : Answering S) (lines : LineRelation) (is_unfinished : List ℕ → Type 0) where
  -- `IsAnswer old bytes outcome reply line new` holds if the request at the front of `bytes` was answered by `reply`,
  -- and `line` is a line for it; or `bytes` are less than a request, and remain so below `needed` bytes, which is more
  -- than there are; `reply` is empty, and the state is unchanged.
  abbrev pub IsAnswer : S → List ℕ → Outcome → List ℕ → List ℕ → S → Type 0
  IsAnswer old bytes (found.Answered size closes) reply line new =
      (0 < size) × (size ≤ length bytes) × answers old (take size bytes) closes reply new
      × lines (take size bytes) closes reply line
  IsAnswer old bytes (found.Unfinished needed) reply line new =
      (length bytes < needed) × StaysUnfinished is_unfinished bytes needed × (reply ≡ []) × (new ≡ old)
