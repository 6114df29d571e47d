use Rattle.std.proofs.Common.{◌≡◌, ◌+◌, drop}
use Rattle.plain.specs.Words.{run}
use Rattle.grammar_syntax.specs.inner.Tokenizing.{is_plain}
use Rattle.grammar_syntax.proofs.strings.plain_len.Given as goal

abbrev pub invariant-loop-byte : goal.invariant-loop-byte
invariant-loop-byte l = (l.len ≡ l.byte-index) × (l.byte-index + run (is_plain l.in_pattern) (drop l.byte-index l.text) ≡ run (is_plain l.in_pattern) l.text)
