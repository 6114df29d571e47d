-- Defines turns in which no request is answered.
-- Source: RFC 9112, section 9.3.
use Rattle.std.specs.Prelude.{◌≡◌, ◌<◌, ◌⊎◌, ℕ, List, Some, length, slice_get}
use Rattle.connections.specs.Connections.{ChangesAt, Connection, Lacked, MayAnswer}
use Rattle.connections.specs.Framing.{StaysUnfinished}

module _ (is_unfinished : List ℕ → Type 0) where
  -- `IsIdleAt c at old new` holds if the connection `c` at the slot `at` may not have a request answered, or has no
  -- whole one; and the table `new` is `old`, where `c` is known to have none, or the service found how many bytes it
  -- needs.
  abbrev pub IsIdleAt : Connection → ℕ → List Connection → List Connection → Type 0
  IsIdleAt c at old new =
      (slice_get old at ≡ Some c) × (MayAnswer c → is_unfinished c.input)
      × (((new ≡ old) × (MayAnswer c → length c.input < c.needed))
      ⊎ ((needed : ℕ) × ChangesAt at (Lacked needed) old new × StaysUnfinished is_unfinished c.input needed))
