use Rattle.std.proofs.Common.{◌≡◌, ◌<◌, ◌^◌, drop}
use Rattle.grammar_syntax.specs.Lexing.{hex_after}
use Rattle.grammar_syntax.proofs.quoted.hex_number.Given as goal

abbrev pub invariant-loop-digit : goal.invariant-loop-digit
invariant-loop-digit l = record {
  small : l.number < 16 ^ l.digit-index;
  same : hex_after l.number (drop l.digit-index l.digits) ≡ hex_after 0 l.digits;
}
