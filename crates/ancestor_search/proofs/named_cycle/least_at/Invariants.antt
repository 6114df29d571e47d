use Rattle.std.proofs.Common.{take}
use Rattle.std.specs.Option.{option_copied}
use Rattle.ancestor_search.specs.inner.Backwards.{IsLeastOf, dist_of}
use Rattle.ancestor_search.proofs.named_cycle.least_at.Given as goal

abbrev pub invariant-loop-parent : goal.invariant-loop-parent
invariant-loop-parent l = IsLeastOf (take l.parent-index l.parents) (dist_of l.distances) l.far (option_copied l.least)
