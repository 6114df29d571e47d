use Rattle.std.proofs.Common.{length}
use denote.Text.{Utf8}
use denote.Shadow.{shadow}
use Rattle.grammar_syntax.proofs.Patterns.{IsSplit}
use Rattle.grammar_syntax.proofs.strings.decode_pattern.Given as goal

abbrev pub invariant-loop-literals : goal.invariant-loop-literals
invariant-loop-literals l = shadow (Utf8 l.rest) × IsSplit l.literals.items l.initial.rest l.rest

abbrev pub decreases-loop-literals : goal.decreases-loop-literals
decreases-loop-literals l = length l.rest
