use Rattle.std.proofs.Common.{◌≤◌, ◌-◌, length, drop}
use Rattle.grammar_syntax.proofs.Bodies.{Passed}
use Rattle.grammar_syntax.proofs.quoted.quoted.Given as goal

abbrev pub invariant-loop-at : goal.invariant-loop-at
invariant-loop-at l = record {
  within : l.at ≤ length l.text;
  passed : Passed l.at l.text (drop l.at l.text) l.kind;
}

abbrev pub decreases-loop-at : goal.decreases-loop-at
decreases-loop-at l = length l.initial.text - l.at
