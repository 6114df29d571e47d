use Rattle.std.proofs.Common.{◌≡◌, drop}
use Rattle.fault_places.specs.Places.{from_byte}
use Rattle.fault_places.proofs.places.from_byte.Given as goal

abbrev pub invariant-loop-token : goal.invariant-loop-token
invariant-loop-token l =
    (l.rest ≡ drop l.token-index l.tokens) × (from_byte l.at (drop l.token-index l.tokens) ≡ from_byte l.at l.tokens)
