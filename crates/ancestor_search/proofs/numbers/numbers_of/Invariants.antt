use Rattle.std.proofs.Common.{take}
use Rattle.ancestor_search.specs.Hierarchy.{referenced}
use Rattle.ancestor_search.specs.inner.Numbering.{NumbersAmong}
use Rattle.ancestor_search.proofs.numbers.numbers_of.Given as goal

abbrev pub invariant-loop-parent : goal.invariant-loop-parent
invariant-loop-parent l = NumbersAmong (referenced l.uids) (take l.parent-index l.parents) l.numbers.items
