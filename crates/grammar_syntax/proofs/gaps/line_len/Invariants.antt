use Rattle.std.proofs.Common.{◌≡◌, ◌+◌, drop}
use Rattle.grammar_syntax.specs.Lexing.{in_line}
use Rattle.plain.specs.Words.{run}
use Rattle.grammar_syntax.proofs.gaps.line_len.Given as goal

abbrev pub invariant-loop-byte : goal.invariant-loop-byte
invariant-loop-byte l = (l.len ≡ l.byte-index) × (l.byte-index + run in_line (drop l.byte-index l.text) ≡ run in_line l.text)
