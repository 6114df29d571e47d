use Rattle.std.proofs.Common.{◌≤◌, ◌-◌, drop, length}
use Rattle.std.specs.Str.{IsCharBoundary}
use Rattle.grammar_syntax.specs.Lexing.{Lex}
use Rattle.grammar_syntax.proofs.lexer.tokens.Given as goal

abbrev pub invariant-loop-at : goal.invariant-loop-at
invariant-loop-at l = record {
  within : l.at ≤ length l.text;
  cut : IsCharBoundary l.text l.at;
  lexed : Lex 0 l.text l.tokens.items l.at (drop l.at l.text);
}

abbrev pub decreases-loop-at : goal.decreases-loop-at
decreases-loop-at l = length l.initial.text - l.at
