use denote.Text.{Utf8}
use denote.Shadow.{shadow}
use Rattle.test_library.proofs.hierarchies.steps_hold.Given as goal

-- the rows of the step before are text, as each `&str` is
abbrev pub invariant-loop-one : goal.invariant-loop-one
invariant-loop-one g l = record {
  can_next : (goal.iterator-loop-one g).can_next l.one-iterator;
  is_finite : (goal.iterator-loop-one g).is_finite l.one-iterator;
  text : shadow (Utf8 l.before);
}
