use Rattle.std.proofs.Common.{◌≤◌, ◌-◌, length}
use Rattle.std.specs.Prelude.{string_bytes}
use Rattle.grammar_syntax.specs.inner.Tokenizing.{IsRead}
use Rattle.grammar_syntax.proofs.strings.read_literal.Given as goal

abbrev pub invariant-loop-at : goal.invariant-loop-at
invariant-loop-at l = record { within : l.at ≤ length l.body; read : IsRead l.in_pattern (string_bytes l.value) l.at l.body }

abbrev pub decreases-loop-at : goal.decreases-loop-at
decreases-loop-at l = length l.initial.body - l.at
