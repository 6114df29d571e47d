use Rattle.std.proofs.Common.{◌≡◌, ◌+◌, drop}
use Rattle.grammar_syntax.specs.Lexing.{is_hex}
use Rattle.plain.specs.Words.{run}
use Rattle.grammar_syntax.proofs.quoted.hex_len.Given as goal

abbrev pub invariant-loop-byte : goal.invariant-loop-byte
invariant-loop-byte l = (l.len ≡ l.byte-index) × (l.byte-index + run is_hex (drop l.byte-index l.text) ≡ run is_hex l.text)
