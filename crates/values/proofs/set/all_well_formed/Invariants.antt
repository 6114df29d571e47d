use Rattle.std.proofs.Common.{drop}
use Rattle.values.specs.Values.{values_of}
use Rattle.values.specs.WellFormed.{AreMembersWellFormed}
use Rattle.values.proofs.set.all_well_formed.Given as goal

abbrev pub invariant-loop-value : goal.invariant-loop-value
invariant-loop-value l = AreMembersWellFormed (values_of (drop l.value-index l.values)) → AreMembersWellFormed (values_of l.values)
