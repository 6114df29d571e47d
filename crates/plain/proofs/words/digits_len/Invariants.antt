use Rattle.std.proofs.Common.{◌≡◌, ◌+◌, drop}
use Rattle.plain.specs.Words.{is_digit, run}
use Rattle.plain.proofs.words.digits_len.Given as goal

abbrev pub invariant-loop-byte : goal.invariant-loop-byte
invariant-loop-byte l = (l.len ≡ l.byte-index) × (l.byte-index + run is_digit (drop l.byte-index l.text) ≡ run is_digit l.text)
