use Rattle.std.proofs.Common.{◌≡◌, ◌+◌, drop}
use Rattle.plain.specs.Words.{is_word_byte, run}
use Rattle.plain.proofs.words.word_len.Given as goal

abbrev pub invariant-loop-byte : goal.invariant-loop-byte
invariant-loop-byte l = (l.len ≡ l.byte-index) × (l.byte-index + run is_word_byte (drop l.byte-index l.text) ≡ run is_word_byte l.text)
