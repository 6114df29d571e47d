use Rattle.ancestor_search.specs.Hierarchy.{referenced}
use Rattle.ancestor_search.specs.inner.Numbering.{MarkedBefore}
use Rattle.ancestor_search.proofs.numbers.marked.Given as goal

abbrev pub invariant-loop-number : goal.invariant-loop-number
invariant-loop-number l = MarkedBefore (referenced l.uids) l.marks l.number (referenced l.found.keys)
