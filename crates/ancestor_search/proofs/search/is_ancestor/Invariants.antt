use Rattle.std.proofs.Common.{◌+◌, ◌-◌, ◌^◌, vec_len}
use Rattle.std.specs.BTreeSet.{btree_set_len}
use Rattle.ancestor_search.specs.Hierarchy.{referenced}
use Rattle.ancestor_search.proofs.Steps.{Searching}
use Rattle.ancestor_search.proofs.search.is_ancestor.Given as goal

abbrev pub invariant-loop-next : goal.invariant-loop-next
invariant-loop-next g l = Searching (g.G.ParentsOf.parents l.graph) l.b (referenced l.seen.keys) (referenced l.work.items)

-- what can still be seen for the first time, and the work
abbrev pub decreases-loop-next : goal.decreases-loop-next
decreases-loop-next g l = 2 ^ 63 - btree_set_len l.seen + vec_len l.work
